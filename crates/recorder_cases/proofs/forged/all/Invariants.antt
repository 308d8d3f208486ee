use Rattle.std.proofs.Common.{◌≡◌, length}
use Rattle.recorder_cases.proofs.forged.all.Given as goal

abbrev pub invariant-loop-i : goal.invariant-loop-i
invariant-loop-i l = length l.bytes ≡ length l.fn.bytes
