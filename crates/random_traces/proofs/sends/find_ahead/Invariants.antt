use Rattle.std.proofs.Common.{◌≤◌}
use Rattle.random_traces.proofs.sends.find_ahead.Given as goal

abbrev pub invariant-loop-a : goal.invariant-loop-a
invariant-loop-a l = l.initial.a ≤ l.a
