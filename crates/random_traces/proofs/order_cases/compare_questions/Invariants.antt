use Rattle.std.proofs.Common.{◌≤◌}
use Rattle.random_traces.proofs.order_cases.compare_questions.Given as goal

abbrev pub invariant-loop-x : goal.invariant-loop-x
invariant-loop-x l = l.initial.x ≤ l.x
