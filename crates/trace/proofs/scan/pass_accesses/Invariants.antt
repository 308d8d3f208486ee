use Prim.Native.Nat.{◌≤◌, max}
use Rattle.records.specs.Bytes.{decode}
use Rattle.trace.specs.loops.Inner.{Accesses}
use Rattle.trace.proofs.scan.pass_accesses.Given as goal

abbrev pub invariant-loop-i : goal.invariant-loop-i
invariant-loop-i l = Accesses (decode l.recs) l.now_in l.owner l.from l.i × (l.i ≤ max l.n l.from)
