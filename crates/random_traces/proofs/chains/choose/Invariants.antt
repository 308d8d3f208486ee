use Rattle.std.proofs.Common.{◌≤◌}
use Rattle.random_traces.proofs.chains.choose.Given as goal

abbrev pub invariant-loop-c : goal.invariant-loop-c
invariant-loop-c l = l.initial.c ≤ l.c
