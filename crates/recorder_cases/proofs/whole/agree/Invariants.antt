use Rattle.std.proofs.Common.{◌≤◌}
use Rattle.recorder_cases.proofs.whole.agree.Given as goal

abbrev pub invariant-loop-i : goal.invariant-loop-i
invariant-loop-i l = l.i ≤ 4096
