use Rattle.question.proofs.MarkListLaws.{marks-down, mark-in-length}
use Rattle.question.specs.loops.ChainPass.{said_by}
use Rattle.question.specs.loops.Marking.{marks_down_in}
use Rattle.records.specs.Bytes.{decode}
use lib.ListN.{length, set}
use Rattle.slices.proofs.Cleared.{cleared-whole}
use native.Mathlib.Omega.{arith}
use mathlib.Core.Path.{◌≡◌, refl, sym, ap, ◌∙◌}
use Prim.Native.Nat.{◌-◌}
use Rattle.question.proofs.chains.mark_before.Goals as goal

pub loop-j-init : goal.loop-j-init
loop-j-init c = (refl, refl)

pub loop-j-preserved : goal.loop-j-preserved
loop-j-preserved c =
    let at-loop-test = c in
    let at-loop = at-loop-test in
    let start = at-loop in
    let op = said_by start.args.ranks.now (decode start.args.recs.now) in
    let l = at-loop.loop-j in
    (ap (marks_down_in op (l.j - 1)) c.mark_link.ensures ∙ sym (marks-down op l.j l.marks at-loop-test.loop-j-test.true) ∙ l.invariant.0, ap length c.mark_link.ensures ∙ mark-in-length (op (l.j - 1)) l.marks ∙ l.invariant.1)

pub shape_of-marks : goal.shape_of-marks
shape_of-marks c =
    let at-put = c in
    let at_clear = at-put in
    c.loop-j.invariant.1 ∙ (at-put.put.auto.items ∙ at_clear.clear.auto.items)

pub returns : goal.returns
unfolding marks_down_in
returns c =
    let z : c.loop-j.j ≡ 0 = omega arith in
    let at-put = c in
    let at_clear = at-put in
    let a = at_clear.args in
    rw z at c.loop-j.invariant.0
    ∙ ap (marks_down_in _ a.i) (at-put.put.ensures ∙ ap (λ m. set m a.u 1) (cleared-whole a.marks.now refl at_clear.clear.ensures))
