use Rattle.std.proofs.Common.{◌≤◌}
use Rattle.random_traces.proofs.slim.is_repeated.Given as goal

abbrev pub invariant-loop-j : goal.invariant-loop-j
invariant-loop-j l = l.j ≤ l.initial.j
