use Rattle.std.proofs.Common.{◌≤◌}
use Rattle.links_cases.proofs.rules.sum.Given as goal

abbrev pub invariant-loop-e : goal.invariant-loop-e
invariant-loop-e l = l.e ≤ 32
