use Rattle.std.proofs.Common.{◌≡◌, length}
use Rattle.links_cases.proofs.random.put_trace.Given as goal

abbrev pub invariant-loop-j : goal.invariant-loop-j
invariant-loop-j l = length l.bytes ≡ length l.fn.bytes
