use Rattle.records.proofs.Leading.{leading-over, leading-four, leading-next}
use Rattle.records.proofs.Decoded.{decoded-length}
use mathlib.Core.Path.{refl, sym, ◌∙◌}
use native.Mathlib.Omega.{arith}
use Rattle.records.proofs.access.skip_accesses.Goals as goal

pub returns-then-n-from : goal.returns-then-n-from
returns-then-n-from c = sym (leading-over _ _ _ (omega (arith, c.count-n.ensures)))

pub loop-i-init : goal.loop-i-init
loop-i-init c = (omega arith, c.count-n.ensures, refl)

pub overflow_add-i : goal.overflow_add-i
overflow_add-i c =
    let start = c in
    omega (arith, decoded-length start.args.recs.now)

pub overflow_add-result : goal.overflow_add-result
overflow_add-result c = omega (arith, c.accesses_among_four-k.ensures)

pub returns-then-k-lt4 : goal.returns-then-k-lt4
returns-then-k-lt4 c =
    let l = c.loop-i in
    let e = c.accesses_among_four-k.ensures in
    rw (e, ← l.invariant.1) (sym (leading-four _ _ _ (omega arith) (rw e at c.if-k-lt4.true)) ∙ l.invariant.2)

pub loop-i-preserved : goal.loop-i-preserved
loop-i-preserved c =
    let l = c.loop-i in
    (omega arith, l.invariant.1, sym (leading-next _ _ _ (omega arith) (rw c.accesses_among_four-k.ensures at c.if-k-lt4.false)) ∙ l.invariant.2)

pub returns : goal.returns
returns c = let l = c.loop-i in rw (← l.invariant.1) (c.skip_last.ensures ∙ l.invariant.2)
