use Rattle.records.proofs.Records.{past_more}
use Rattle.records.specs.Bytes.{decode}
use Rattle.records.specs.Records.{past, begins}
use mathlib.Core.Path.{◌≡◌, refl, ◌∙◌}
use native.Mathlib.Omega.{arith}
use borrow.Author.Tests.{ne_eqb}
use borrow.Author.Rules.{rules}
use Rattle.records.proofs.access.count_begins.Goals.{then-kind_at-eq1, else-kind_at-eq1}
use Rattle.records.proofs.access.count_begins.Goals as goal

pub loop-i-init : goal.loop-i-init
unfolding begins past
loop-i-init c = (refl, search rules, search rules)

pub loop-i-preserved : goal.loop-i-preserved
unfolding begins
loop-i-preserved c =
    let start = c in
    let a = start.args in
    let l = c.loop-i in
    let k = c.kind_at in
    let more = past_more (decode a.recs.now) l.i in
    elim c.if-kind_at-eq1.branch [
      | then-kind_at-eq1 w ↦ (w.found-is ∙ simp (more, ← k.ensures, w.if-kind_at-eq1.true, l.invariant.0), omega arith, omega arith)
      | else-kind_at-eq1 w ↦ (w.found-is ∙ simp (more, ← k.ensures, ne_eqb _ _ w.if-kind_at-eq1.false, l.invariant.0), omega arith, omega arith)
    ]

pub returns : goal.returns
returns c =
    let l = c.loop-i in
    let n = c.count-n in
    let z : l.i ≡ n.result = omega arith in
    l.invariant.0 ∙ simp (z, n.ensures)
