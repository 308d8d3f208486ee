use Rattle.std.proofs.Common.{◌-◌, ◌≤◌}
use Rattle.retelling_cases.proofs.ask_each.Given as goal

abbrev pub invariant-loop-x : goal.invariant-loop-x
invariant-loop-x l = l.x ≤ 4096
