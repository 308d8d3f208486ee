-- What a slim trace has in common with the trace it is made of. Assumes nothing.
use Rattle.std.specs.Prelude.{ℕ, ◌≡◌, List, ◌↔◌}
use Rattle.records.specs.declared.Record.{Record}
use Rattle.records.specs.declared.Trace.{Trace}
use Rattle.trace.specs.Reading.{trace_from, records_in, Accepts, Acceptable}
use Rattle.order.specs.HappensBefore.{Begins, Link, HappensBefore}
use Rattle.order.specs.ByEvent.{chain_in}
use Rattle.order.specs.Fill.{trace_clocks}
use Rattle.coverage.specs.Embedding.{SameCells, SameCombinations}
use Rattle.races.specs.Traces.{cells_of, setting_of}
use Rattle.compactor.specs.SlimTrace.{slim_of, old, dropped_in}
use Rattle.compactor.specs.Compact.{slim_bytes}

module _ (tr : List Record) where
  -- "a second trace, nothing before its record 1": the reader accepts it, from the first byte on, and reads the kept records
  pub record IsTrace : Type 0 where
    pub acceptable : Acceptable (slim_of tr)
    pub accepts : Accepts (slim_bytes tr) (trace_from 0 (slim_of tr))
    pub reads : records_in (slim_bytes tr) (trace_from 0 (slim_of tr)) ≡ slim_of tr

  -- "and every other record": the same event actions, forks, sends and joins, so the same happens-before, chains and clock rows
  pub record SameOrder : Type 0 where
    pub events : (e : ℕ) → Begins (slim_of tr) e ↔ Begins tr e
    pub links : (t u : ℕ) → Link (slim_of tr) t u ↔ Link tr t u
    pub order : (t u : ℕ) → HappensBefore (slim_of tr) t u ↔ HappensBefore tr t u
    pub chains : (e : ℕ) → chain_in (slim_of tr) e ≡ chain_in tr e
    pub rows : (width : ℕ) → trace_clocks (slim_of tr) width ≡ trace_clocks tr width

  -- "The slim trace has the same cells with an open race, and the same combinations of first event action and second access among its open races, a kept
  -- record being the same access under its new number."
  pub record SameRaces : Type 0 where
    pub cells : SameCells (setting_of tr) (cells_of tr) (setting_of (slim_of tr)) (cells_of (slim_of tr))
    pub combinations : SameCombinations (setting_of tr) (setting_of (slim_of tr)) (old tr)

  -- "Compacting a slim trace drops zero records", and gives the same bytes
  pub record NothingMore : Type 0 where
    pub zero : dropped_in (slim_of tr) ≡ 0
    pub bytes : slim_bytes (slim_of tr) ≡ slim_bytes tr

-- of every accepted trace
pub record SlimmerJobFiles : Type 0 where
  pub is_trace : (b : List ℕ) (t : Trace) → Accepts b t → IsTrace (records_in b t)
  pub same-order : (b : List ℕ) (t : Trace) → Accepts b t → SameOrder (records_in b t)
  pub same_races : (b : List ℕ) (t : Trace) → Accepts b t → SameRaces (records_in b t)
  pub nothing_more : (b : List ℕ) (t : Trace) → Accepts b t → NothingMore (records_in b t)
