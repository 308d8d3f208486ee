use Prim.Native.Nat.{◌≤◌}
use Rattle.records.specs.Bytes.{decode}
use Rattle.records.specs.Search.{Past}
use Rattle.records.proofs.search.next_near.Given as goal

abbrev pub invariant-loop-i : goal.invariant-loop-i
invariant-loop-i l = (l.i ≤ l.to) × Past (decode l.recs) l.least l.c.0 l.from l.i
