use Rattle.std.proofs.Common.{◌≤◌}
use Rattle.recorder_cases.proofs.raw.same.Given as goal

abbrev pub invariant-loop-i : goal.invariant-loop-i
invariant-loop-i l = l.i ≤ l.n
