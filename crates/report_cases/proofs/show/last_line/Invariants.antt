use Rattle.std.proofs.Common.{◌≤◌}
use Rattle.report_cases.proofs.show.last_line.Given as goal

abbrev pub invariant-loop-i : goal.invariant-loop-i
invariant-loop-i l = l.i ≤ l.n
