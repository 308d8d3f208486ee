use Rattle.std.proofs.Common.{◌≡◌, length}
use Rattle.links_cases.proofs.rules.paths_once.Given as goal

abbrev pub invariant-loop-x : goal.invariant-loop-x
invariant-loop-x l = length l.table ≡ length l.fn.table
