use Rattle.std.proofs.Common.{◌≡◌, length}
use Rattle.random_traces.proofs.chains.find_chains.Given as goal

abbrev pub invariant-loop-t : goal.invariant-loop-t
invariant-loop-t l = length l.table ≡ length l.initial.table
