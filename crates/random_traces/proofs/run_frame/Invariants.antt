use Rattle.std.proofs.Common.{◌-◌, ◌≤◌}
use Rattle.random_traces.proofs.run_frame.Given as goal

abbrev pub invariant-loop-x : goal.invariant-loop-x
invariant-loop-x l = l.x ≤ l.n
