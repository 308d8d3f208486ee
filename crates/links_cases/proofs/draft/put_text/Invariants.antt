use Rattle.std.proofs.Common.{◌≡◌, length}
use Rattle.links_cases.proofs.draft.put_text.Given as goal

abbrev pub invariant-loop-at : goal.invariant-loop-at
invariant-loop-at l = length l.bytes ≡ length l.fn.bytes
