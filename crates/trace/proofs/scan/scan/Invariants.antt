use Prim.Native.Nat.{◌-◌}
use Rattle.records.specs.Bytes.{decode}
use Rattle.trace.proofs.Going.{Going}
use Rattle.trace.proofs.scan.scan.Given as goal

abbrev pub invariant-loop-i : goal.invariant-loop-i
invariant-loop-i l =
    Going (decode l.recs) l.start l.events l.now_in l.owner l.found l.i l.sends l.status

abbrev pub decreases-loop-i : goal.decreases-loop-i
decreases-loop-i l =
    l.records - l.i
