use Rattle.std.proofs.Common.{◌≡◌, length}
use Rattle.recorder_cases.proofs.limits.steps.Given as goal

abbrev pub invariant-loop-i : goal.invariant-loop-i
invariant-loop-i l = length l.bytes ≡ length l.fn.bytes
