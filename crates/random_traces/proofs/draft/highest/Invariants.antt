use Rattle.std.proofs.Common.{◌≤◌}
use Rattle.random_traces.proofs.draft.highest.Given as goal

abbrev pub invariant-loop-i : goal.invariant-loop-i
invariant-loop-i l = l.i ≤ l.n
