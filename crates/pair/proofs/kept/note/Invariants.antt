use Prim.Native.Nat.{◌≤◌}
use Rattle.records.specs.Bytes.{decode}
use Rattle.pair.specs.loops.Kept.{Noted}
use Rattle.pair.proofs.kept.note.Given as goal

abbrev pub invariant-loop-i : goal.invariant-loop-i
invariant-loop-i l = (l.lo ≤ l.i) × (l.i ≤ l.hi) × Noted (decode l.recs) l.lo l.i l.initial.cells l.cells
