use Rattle.std.proofs.Common.{◌≡◌, length}
use Rattle.links_cases.proofs.rules.clear.Given as goal

abbrev pub invariant-loop-e : goal.invariant-loop-e
invariant-loop-e l = length l.table ≡ length l.fn.table
