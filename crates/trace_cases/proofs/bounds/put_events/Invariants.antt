use Rattle.std.proofs.Common.{◌≡◌, ◌≤◌, length}
use Rattle.trace_cases.proofs.bounds.put_events.Given as goal

abbrev pub invariant-loop-e : goal.invariant-loop-e
invariant-loop-e l = (length l.bytes ≡ length l.fn.bytes) × (l.e ≤ 1025)
