use Rattle.std.proofs.Common.{◌≡◌, length}
use Rattle.random_traces.proofs.slim.find_kept.Given as goal

abbrev pub invariant-loop-i : goal.invariant-loop-i
invariant-loop-i l = length l.map ≡ length l.initial.map
