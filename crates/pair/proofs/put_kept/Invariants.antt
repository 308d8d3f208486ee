use Rattle.records.specs.Bytes.{decode}
use Rattle.ranks.specs.Ranks.{ranks_of}
use Rattle.pair.specs.loops.Leading.{Marks}
use Rattle.pair.proofs.KeptEntries.{Ends}
use Rattle.pair.proofs.put_kept.Given as goal

abbrev pub invariant-loop-i : goal.invariant-loop-i
invariant-loop-i l = (m : Marks (decode l.recs) (ranks_of (decode l.recs)) l.work l.b) → Ends m l.initial.list l.i l.t l.k l.list
