use Prim.Native.Nat.{◌-◌}
use Rattle.records.specs.Bytes.{decode}
use Rattle.races.specs.loops.FilledClocks.{FilledClocks}
use Rattle.races.specs.loops.Raising.{Unmarked}
use Rattle.races.proofs.MarkAllLaws.{Marking}
use Rattle.races.proofs.raising.mark_all.Given as goal

abbrev pub invariant-loop-k : goal.invariant-loop-k
invariant-loop-k l = (f : FilledClocks (decode l.layout.recs.now) l.layout.ranks.now l.layout.chosen.now l.layout.width l.initial.clocks) × (un : Unmarked (decode l.layout.recs.now) l.initial.list l.count) × Marking f un l.k l.s.row l.s.position l.s.chains l.clocks l.list

abbrev pub decreases-loop-k : goal.decreases-loop-k
decreases-loop-k l = l.count - l.k
