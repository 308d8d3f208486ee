use Rattle.std.proofs.Common.{◌≡◌, length}
use Rattle.random_traces.proofs.draft.put_actions.Given as goal

abbrev pub invariant-loop-j : goal.invariant-loop-j
invariant-loop-j l = length l.bytes ≡ length l.initial.bytes
