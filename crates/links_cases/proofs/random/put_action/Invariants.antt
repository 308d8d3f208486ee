use Rattle.std.proofs.Common.{◌≡◌, length}
use Rattle.links_cases.proofs.random.put_action.Given as goal

abbrev pub invariant-loop-r : goal.invariant-loop-r
invariant-loop-r l = length l.bytes ≡ length l.fn.bytes
