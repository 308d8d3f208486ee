use Rattle.std.proofs.Common.{◌≡◌, ◌≤◌, length}
use Rattle.report_cases.proofs.longest.put_events.Given as goal

abbrev pub invariant-loop-e : goal.invariant-loop-e
invariant-loop-e l = (length l.bytes ≡ length l.initial.bytes) × (l.e ≤ 1025)
