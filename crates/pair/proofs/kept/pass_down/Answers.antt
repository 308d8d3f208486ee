use native.Mathlib.Omega.{arith}
use mathlib.Core.Path.{◌≡◌}
use Rattle.pair.proofs.RecordRows.{split-some, split-block}
use Rattle.pair.proofs.KeptSteps.{passes_none, passes-down}
use Rattle.pair.proofs.kept.pass_down.Goals as goal

pub loop-t-init : goal.loop-t-init
loop-t-init c = let s = c in (passes_none s.requires.passing, s.requires.split.0, s.requires.split.1)

pub overflow_sub-hi : goal.overflow_sub-hi
overflow_sub-hi c =
    let l = c.loop-t in
    omega (arith, split-some l.invariant.0.again.filled.acceptable l.t l.hi c.loop-t-test.true l.invariant.2 l.invariant.1)

pub pass_row-requires : goal.pass_row-requires
pass_row-requires c =
    let at-loop-test = c in
    let at-loop = at-loop-test in
    let l = at-loop.loop-t in
    (l.invariant.0.again, split-block l.invariant.0.again.filled.acceptable l.t l.hi at-loop-test.loop-t-test.true l.invariant.2 l.invariant.1 _ c.block_start-lo.ensures)

pub loop-t-preserved : goal.loop-t-preserved
loop-t-preserved c =
    let at-pass-row = c in
    let at-block-start = at-pass-row in
    let at-loop-test = at-block-start in
    let at-loop = at-loop-test in
    let l = at-loop.loop-t in
    let h = at-loop-test.loop-t-test.true in
    let k = split-block l.invariant.0.again.filled.acceptable l.t l.hi h l.invariant.2 l.invariant.1 _ at-block-start.block_start-lo.ensures in
    (passes-down h l.invariant.0 at-pass-row.pass_row.ensures, k.from, omega (arith, l.invariant.2))

pub shape_of-work : goal.shape_of-work
shape_of-work c = c.loop-t.invariant.0.rest.size

pub shape_of-row : goal.shape_of-row
shape_of-row c = c.loop-t.invariant.0.row_size

pub shape_of-cells : goal.shape_of-cells
shape_of-cells c =
    let start = c in
    omega (arith, c.loop-t.invariant.0.again.cells_are.size, start.requires.passing.cells_are.size)

pub returns : goal.returns
returns c =
    let l = c.loop-t in
    let e : l.t ≡ 0 = omega (arith, c.loop-t-test.false) in
    record { start = l.hi; split = rw e at l.invariant.1; passes = rw e at l.invariant.0 }
