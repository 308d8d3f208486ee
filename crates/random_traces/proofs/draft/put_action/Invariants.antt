use Rattle.std.proofs.Common.{◌≡◌, length}
use Rattle.random_traces.proofs.draft.put_action.Given as goal

abbrev pub invariant-loop-r : goal.invariant-loop-r
invariant-loop-r l = length l.bytes ≡ length l.initial.bytes
