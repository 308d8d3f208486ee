use Prim.Native.Nat.{◌≤◌}
use Rattle.records.specs.Bytes.{decode}
use Rattle.pair.specs.loops.PairSearch.{NoRace}
use Rattle.pair.proofs.cover.next_race.Given as goal

abbrev pub invariant-loop-d : goal.invariant-loop-d
invariant-loop-d l = (l.lo ≤ l.d) × NoRace (decode l.ranked.filled.recs.now) l.b l.lo l.t l.d
