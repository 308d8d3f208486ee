use Rattle.std.proofs.Common.{◌≤◌}
use Rattle.retelling_cases.proofs.kept_records.Given as goal

abbrev pub invariant-loop-x : goal.invariant-loop-x
invariant-loop-x l = l.x ≤ 512
