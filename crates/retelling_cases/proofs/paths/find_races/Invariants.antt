use Rattle.std.proofs.Common.{◌≡◌, length}
use Rattle.retelling_cases.proofs.paths.find_races.Given as goal

abbrev pub invariant-loop-x : goal.invariant-loop-x
invariant-loop-x l = length l.table ≡ length l.initial.table
