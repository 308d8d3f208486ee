use Rattle.std.proofs.Common.{◌≤◌}
use Rattle.links_cases.proofs.randoms.Given as goal

abbrev pub invariant-loop-seed : goal.invariant-loop-seed
invariant-loop-seed l = l.seed ≤ 1000
