use Rattle.std.proofs.Common.{◌≡◌, length}
use Rattle.random_traces.proofs.definitions.find_races.Given as goal

abbrev pub invariant-loop-x : goal.invariant-loop-x
invariant-loop-x l = length l.table ≡ length l.initial.table
