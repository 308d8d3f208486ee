use Rattle.std.proofs.Common.{◌≤◌}
use Rattle.random_traces.proofs.definitions.find_leads.Given as goal

abbrev pub invariant-loop-r : goal.invariant-loop-r
invariant-loop-r l = l.r ≤ l.initial.r
