use Rattle.std.proofs.Common.{◌≡◌, length}
use Rattle.links_cases.proofs.rules.first_blocked.Given as goal

abbrev pub invariant-loop-i : goal.invariant-loop-i
invariant-loop-i l = length l.table ≡ length l.fn.table
