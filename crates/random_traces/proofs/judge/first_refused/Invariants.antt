use Rattle.std.proofs.Common.{◌≤◌}
use Rattle.random_traces.proofs.judge.first_refused.Given as goal

abbrev pub invariant-loop-i : goal.invariant-loop-i
invariant-loop-i l = l.initial.i ≤ l.i
