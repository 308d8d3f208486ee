use Rattle.std.proofs.Common.{◌<◌, ◌≤◌}
use Rattle.report_cases.proofs.show.checksum.Given as goal

abbrev pub invariant-loop-i : goal.invariant-loop-i
invariant-loop-i l = (l.a < 65521) × (l.b < 65521) × (l.i ≤ l.n)
