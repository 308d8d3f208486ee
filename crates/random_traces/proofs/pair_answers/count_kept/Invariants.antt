use Rattle.std.proofs.Common.{◌≤◌}
use Rattle.random_traces.proofs.pair_answers.count_kept.Given as goal

abbrev pub invariant-loop-t : goal.invariant-loop-t
invariant-loop-t l = l.initial.t ≤ l.t
