use Rattle.std.proofs.Common.{◌≤◌}
use Rattle.trace_cases.proofs.tally.agreements.Given as goal

abbrev pub invariant-loop-i : goal.invariant-loop-i
invariant-loop-i l = (l.agree ≤ l.i) × (l.i ≤ l.cases)
