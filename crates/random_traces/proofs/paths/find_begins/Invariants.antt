use Rattle.std.proofs.Common.{◌≡◌, length}
use Rattle.random_traces.proofs.paths.find_begins.Given as goal

abbrev pub invariant-loop-i : goal.invariant-loop-i
invariant-loop-i l = length l.table ≡ length l.initial.table
