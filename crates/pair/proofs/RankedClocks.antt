-- Filled clocks with the ranks that stand beside them. Assumes nothing.
use mathlib.Core.Path.{◌≡◌}
use mathlib.Core.List.{List}
use Prim.Native.Nat.{ℕ}
use Rattle.records.specs.declared.Record.{Record}
use Rattle.records.specs.Bytes.{decode}
use Rattle.ranks.specs.Ranks.{ranks_of}
use Rattle.races.specs.loops.FilledClocks.{FilledClocks}
use Rattle.pair.specs.declared.filled.Ranked.{Ranked}

pub with_ranks : {tr : List Record} {chosen : List ℕ} {width : ℕ} {clocks ranks : List ℕ} → FilledClocks tr (ranks_of tr) chosen width clocks → ranks ≡ ranks_of tr → FilledClocks tr ranks chosen width clocks
with_ranks f e = record {
  acceptable = f.acceptable;
  ranks_are = e;
  chosen_are = f.chosen_are;
  narrow = f.narrow;
  enough = f.enough;
  rest = f.rest;
  clocks_are = f.clocks_are;
}

pub ranked_clocks : (r : Ranked) → FilledClocks (decode r.filled.recs.now) r.ranks.now r.filled.chosen.now r.filled.width r.filled.clocks.now
ranked_clocks r = with_ranks r.filled.filled r.ranks_are
