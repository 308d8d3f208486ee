use Rattle.std.proofs.Common.{◌≡◌, length}
use Rattle.random_traces.proofs.definitions.find_short.Given as goal

abbrev pub invariant-loop-r : goal.invariant-loop-r
invariant-loop-r l = length l.table ≡ length l.initial.table
