use Rattle.std.proofs.Common.{◌≡◌, length}
use Rattle.random_traces.proofs.frames.put_frame.Given as goal

abbrev pub invariant-loop-i : goal.invariant-loop-i
invariant-loop-i l = length l.bytes ≡ length l.initial.bytes
