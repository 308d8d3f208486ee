use native.Mathlib.Omega.{arith}
use mathlib.Core.Path.{◌≡◌, ◌∙◌}
use Rattle.records.specs.Bytes.{decode}
use Rattle.records.specs.Records.{at}
use Rattle.races.proofs.CandidateLaws.{cell-low}
use Rattle.pair.proofs.KeptLaws.{kind-high, noted-none, noted-still, noted-next, noted-bytes}
use Rattle.pair.proofs.kept.note.Goals as goal
use Rattle.pair.proofs.kept.note.Goals.{then-kind-gt4, else-kind-gt4}

pub returns-then-count-hi : goal.returns-then-count-hi
returns-then-count-hi c = absurd (omega (arith, c.count.ensures))

pub loop-i-init : goal.loop-i-init
loop-i-init c = (omega arith, omega arith, noted-none _ _ _)

pub note_access-requires : goal.note_access-requires
note_access-requires c =
    let at-kind-at = c in
    let at-loop-test = at-kind-at in
    let at-loop = c in
    let s = at-loop in
    let l = at-loop.loop-i in
    let k = at-kind-at.base_kind_at-kind.ensures in
    let h = at-loop-test.loop-i-test.true in
    let b = noted-bytes s.requires.0 s.args.lo l.i s.args.cells.now l.cells (omega (arith, s.requires.2)) s.requires.3 l.invariant.2 in (
      omega (arith, c.if-kind-gt4.true),
      omega (arith, kind-high (at (decode s.args.recs.now) l.i)),
      omega (arith, c.cell_at.ensures, cell-low s.requires.0 l.i (omega (arith, s.requires.2)), b.size),
      b.low _,
    )

pub loop-i-preserved : goal.loop-i-preserved
loop-i-preserved c =
    let s = c in
    let l = c.loop-i in
    let h = c.loop-i-test.true in
    let k = c.base_kind_at-kind.ensures in (
      omega (arith, l.invariant.0),
      omega arith,
      elim c.if-kind-gt4.branch [ then-kind-gt4 w ↦ noted-next _ _ _ l.i l.invariant.0 l.cells l.invariant.2 (omega (arith, cell-low s.requires.0 l.i (omega (arith, s.requires.2)), s.requires.3.size)) _ _ k w.cell_at.ensures _ (w.cells-is ∙ w.note_access.ensures) | else-kind-gt4 w ↦ rw w.cells-is (noted-still _ _ _ l.i l.invariant.0 l.cells l.invariant.2 (omega arith)) ],
    )

pub shape_of-cells : goal.shape_of-cells
shape_of-cells c = omega (arith, c.loop-i.invariant.2.size)

pub returns : goal.returns
returns c =
    let start = c in
    let l = c.loop-i in
    let e : l.i ≡ start.args.hi = omega (arith, l.invariant.1, c.loop-i-test.false) in
    rw e at l.invariant.2
