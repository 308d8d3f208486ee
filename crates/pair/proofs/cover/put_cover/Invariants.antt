use Prim.Native.Nat.{◌-◌}
use Rattle.records.specs.Bytes.{decode}
use Rattle.pair.specs.loops.PairSearch.{Written}
use Rattle.pair.proofs.cover.put_cover.Given as goal

abbrev pub invariant-loop-step : goal.invariant-loop-step
invariant-loop-step l = Written (decode l.ranked.filled.recs.now) l.a l.b l.t l.k l.initial.list l.list

abbrev pub decreases-loop-step : goal.decreases-loop-step
decreases-loop-step l = l.b - l.t
