use Rattle.std.proofs.Common.{◌≤◌}
use Rattle.random_traces.proofs.cases.compare_refused.Given as goal

abbrev pub invariant-loop-call : goal.invariant-loop-call
invariant-loop-call l = l.initial.call ≤ l.call
