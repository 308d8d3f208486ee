use Rattle.std.proofs.Common.{◌≤◌}
use Rattle.random_traces.proofs.sends.is_behind.Given as goal

abbrev pub invariant-loop-b : goal.invariant-loop-b
invariant-loop-b l = l.initial.b ≤ l.b
