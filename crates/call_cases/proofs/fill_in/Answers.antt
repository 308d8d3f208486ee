use native.Mathlib.Omega.{arith}
use lib.ListN.{length-take}
use Rattle.call_cases.proofs.fill_in.Goals as goal

pub slice_bounds-fill-end-then-space-clocks : goal.slice_bounds-fill-end-then-space-clocks
slice_bounds-fill-end-then-space-clocks c = simp length-take (omega arith)
