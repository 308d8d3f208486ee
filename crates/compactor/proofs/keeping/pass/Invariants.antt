use Prim.Native.Nat.{◌-◌, ◌≤◌}
use lib.ListN.{length}
use Rattle.records.specs.Bytes.{decode}
use Rattle.compactor.specs.loops.Keeping.{Stamps}
use Rattle.compactor.proofs.KeepLaws.{Written}
use Rattle.compactor.proofs.keeping.pass.Given as goal

abbrev pub invariant-loop-i : goal.invariant-loop-i
invariant-loop-i l =
    Stamps (decode l.recs) l.i l.read l.written × Written l.writing (decode l.recs) l.i l.k l.initial.out l.out × (l.i ≤ length (decode l.recs))
