use mathlib.Core.Path.{sym, ◌∙◌}
use native.Mathlib.Omega.{arith}
use Rattle.order.proofs.BeginLaws.{seeking-start, seeking-here, seeking-begin, seeking-other, seeking-end}
use Rattle.order.proofs.from_table.begin_of.Goals as goal
use Rattle.order.proofs.from_table.begin_of.Goals.{then-kind_at-eq1+else-begun-u, else-kind_at-eq1}

pub loop-i-init : goal.loop-i-init
loop-i-init c = (seeking-start _ _, omega arith)

pub returns-then-begun-u : goal.returns-then-begun-u
returns-then-begun-u c =
    let l = c.loop-i in
    let k = c.kind_at in
    let n = c.count-n in
    seeking-here _ _ l.invariant.0 (omega (arith, n.ensures)) (sym k.ensures ∙ c.if-kind_at-eq1.true) c.if-begun-u.true

pub overflow_add-begun : goal.overflow_add-begun
overflow_add-begun c = omega (arith, c.loop-i.invariant.0.few)

pub loop-i-preserved : goal.loop-i-preserved
loop-i-preserved c =
    let l = c.loop-i in
    let k = c.kind_at in
    elim c.if-kind_at-eq1.branch [ then-kind_at-eq1+else-begun-u w ↦ (rw w.begun-is (seeking-begin _ _ l.invariant.0 (sym k.ensures ∙ w.if-kind_at-eq1.true) w.if-begun-u.false), omega arith) | else-kind_at-eq1 w ↦ (rw w.begun-is (seeking-other _ _ l.invariant.0 (λ e. w.if-kind_at-eq1.false (k.ensures ∙ e))), omega arith) ]

pub returns : goal.returns
returns c =
    let l = c.loop-i in
    let n = c.count-n in
    n.ensures ∙ seeking-end _ _ l.invariant.0 (omega (arith, n.ensures))
