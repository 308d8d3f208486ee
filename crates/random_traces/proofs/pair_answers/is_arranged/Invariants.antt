use Rattle.std.proofs.Common.{◌≤◌}
use Rattle.random_traces.proofs.pair_answers.is_arranged.Given as goal

abbrev pub invariant-loop-x : goal.invariant-loop-x
invariant-loop-x l = l.initial.x ≤ l.x
