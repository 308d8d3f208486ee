use native.Mathlib.Omega.{arith}
use lib.ListN.{length-take}
use Rattle.pair_lists.proofs.CopyLaws.{within}
use Rattle.pair_lists.proofs.list_within.Goals as goal

pub slice_bounds-list_numbers-end-2 : goal.slice_bounds-list_numbers-end-2
slice_bounds-list_numbers-end-2 c = simp length-take (omega arith)

pub returns : goal.returns
returns c =
    let a = c.args in
    within a.numbers.now _ c.space_for-space.result a.room _ c.space_for-space.ensures.0 c.list_numbers.ensures
