use Rattle.std.proofs.Common.{arith, length-take}
use Rattle.random_traces.proofs.calls.with_list.Goals as goal

pub slice_bounds-call-end-2 : goal.slice_bounds-call-end-2
slice_bounds-call-end-2 c = simp length-take (omega arith)
