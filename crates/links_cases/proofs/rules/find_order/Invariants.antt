use Rattle.std.proofs.Common.{◌≡◌, length}
use Rattle.links_cases.proofs.rules.find_order.Given as goal

abbrev pub invariant-loop-k : goal.invariant-loop-k
invariant-loop-k l = length l.table ≡ length l.fn.table
