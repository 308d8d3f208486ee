use Rattle.std.proofs.Common.{◌≡◌, length}
use Rattle.recorder_cases.proofs.random.all.Given as goal

abbrev pub invariant-loop-seed : goal.invariant-loop-seed
invariant-loop-seed l = (length l.bytes ≡ length l.fn.bytes) × (length l.log ≡ length l.fn.log)
