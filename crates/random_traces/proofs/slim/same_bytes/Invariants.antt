use Rattle.std.proofs.Common.{◌≤◌}
use Rattle.random_traces.proofs.slim.same_bytes.Given as goal

abbrev pub invariant-loop-i : goal.invariant-loop-i
invariant-loop-i l = l.i ≤ l.initial.i
