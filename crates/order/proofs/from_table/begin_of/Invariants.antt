use Prim.Native.Nat.{◌≤◌}
use Rattle.records.specs.Bytes.{decode}
use Rattle.order.proofs.BeginLaws.{Seeking}
use Rattle.order.proofs.from_table.begin_of.Given as goal

abbrev pub invariant-loop-i : goal.invariant-loop-i
invariant-loop-i l = Seeking (decode l.recs) l.u l.begun l.i × (l.i ≤ l.n)
