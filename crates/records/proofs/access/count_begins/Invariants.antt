use Rattle.records.specs.Bytes.{decode}
use Rattle.records.specs.Records.{past, begins}
use Prim.Native.Nat.{◌≤◌}
use mathlib.Core.Path.{◌≡◌}
use Rattle.records.proofs.access.count_begins.Given as goal

abbrev pub invariant-loop-i : goal.invariant-loop-i
invariant-loop-i l = (l.found ≡ begins (past (decode l.recs) l.i)) × (l.i ≤ l.n) × (l.found ≤ l.i)
