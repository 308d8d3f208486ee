use Rattle.std.proofs.Common.{◌≤◌}
use Rattle.retelling_cases.proofs.arrangements.run_event.Given as goal

abbrev pub invariant-loop-i : goal.invariant-loop-i
invariant-loop-i l = l.i ≤ l.end
