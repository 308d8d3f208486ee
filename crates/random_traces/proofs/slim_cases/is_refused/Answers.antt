use Rattle.std.proofs.Common.{arith, length-take}
use Rattle.random_traces.proofs.slim_cases.is_refused.Goals as goal

pub slice_bounds-compact-end-2 : goal.slice_bounds-compact-end-2
slice_bounds-compact-end-2 c = simp length-take (omega arith)
