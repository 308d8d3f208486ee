use Rattle.std.proofs.Common.{◌≤◌}
use Rattle.random_traces.proofs.slim.are_kept.Given as goal

abbrev pub invariant-loop-k : goal.invariant-loop-k
invariant-loop-k l = l.k ≤ l.initial.k
