use native.Mathlib.Omega.{arith}
use lib.ListN.{length-take}
use Rattle.call_cases.proofs.pair_in.Goals as goal

pub slice_bounds-ask_pair-end-2 : goal.slice_bounds-ask_pair-end-2
slice_bounds-ask_pair-end-2 c = simp length-take (omega arith)

pub slice_bounds-ask_pair-end-4 : goal.slice_bounds-ask_pair-end-4
slice_bounds-ask_pair-end-4 c = simp length-take (omega arith)
