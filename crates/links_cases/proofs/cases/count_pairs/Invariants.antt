use Rattle.std.proofs.Common.{◌≤◌}
use Rattle.links_cases.proofs.cases.count_pairs.Given as goal

abbrev pub invariant-loop-x : goal.invariant-loop-x
invariant-loop-x l = l.x ≤ 1024
