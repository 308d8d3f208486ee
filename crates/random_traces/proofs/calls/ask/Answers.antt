use Rattle.std.proofs.Common.{arith, length-take}
use Rattle.random_traces.proofs.calls.ask.Goals as goal

pub slice_bounds-with_work-end-2 : goal.slice_bounds-with_work-end-2
slice_bounds-with_work-end-2 c = simp length-take (omega arith)
