use Rattle.std.proofs.Common.{◌-◌, ◌≤◌}
use Rattle.retelling_cases.proofs.count_all.Given as goal

abbrev pub invariant-loop-r : goal.invariant-loop-r
invariant-loop-r l = l.r ≤ l.found
