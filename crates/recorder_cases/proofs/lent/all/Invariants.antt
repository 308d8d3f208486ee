use Rattle.std.proofs.Common.{◌≡◌, length}
use Rattle.recorder_cases.proofs.lent.all.Given as goal

abbrev pub invariant-loop-space : goal.invariant-loop-space
invariant-loop-space l = length l.bytes ≡ length l.fn.bytes
