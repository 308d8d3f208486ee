use Rattle.std.proofs.Common.{◌-◌, ◌≤◌}
use Rattle.retelling_cases.proofs.slots.size.Given as goal

abbrev pub invariant-loop-t : goal.invariant-loop-t
invariant-loop-t l = l.t ≤ 62
