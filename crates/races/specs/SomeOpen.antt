-- "Also show that a trace with any race has an open one.": of the trace, and of both lists as they are written. Assumes nothing.
use Rattle.std.specs.Prelude.{ℕ, ◌<◌, ◌≡◌, Bool, false, List, length, Result, Ok}
use Rattle.records.specs.declared.Record.{Record}
use Rattle.records.specs.declared.Trace.{Trace}
use Rattle.trace.specs.Reading.{records_in, Accepts}
use Rattle.coverage.specs.Race.{Race}
use Rattle.coverage.specs.Cover.{Open}
use Rattle.trace.specs.declared.Refusal.{Refusal}
use Rattle.races.specs.declared.Summary.{Summary}
use Rattle.races.specs.Traces.{setting_of}
use Rattle.races.specs.Lists.{pairs_of}
use Rattle.races.specs.Paper.{Lists}
use Rattle.races.specs.Demand.{Names, ListSuffices}

-- "a trace with any race"
abbrev pub AnyRace : List Record → Type 0
AnyRace tr = (a b : ℕ) × Race (setting_of tr) a b

-- "has an open one"
abbrev pub OpenRace : List Record → Type 0
OpenRace tr = (a b : ℕ) × Race (setting_of tr) a b × Open (setting_of tr) a b

-- a list, by the cells that it names as open for a count of its entries: it is made, and "it has an entry of that cell marked open", for some cell
pub record ListOpens (tr : List Record) (names : ℕ → ℕ → Type 0) (r : Result Summary Refusal) : Type 0 where
  pub summary : Summary
  pub is_made : r ≡ Ok summary
  -- where the trace has any race
  pub any_race : AnyRace tr → (cell : ℕ) × names summary.count cell
  -- where the list of all races has an entry, whichever list this is
  pub any_listed : 0 < length (pairs_of tr false) → (cell : ℕ) × names summary.count cell
  -- where this list has an entry
  pub any_entry : 0 < summary.count → (cell : ℕ) × names summary.count cell

-- of every accepted trace, "whatever the lent spaces held before, so long as they and the clock width suffice for the call"
pub record SomeOpen : Type 0 where
  pub traces : (bytes : List ℕ) (t : Trace) → Accepts bytes t → AnyRace (records_in bytes t) → OpenRace (records_in bytes t)
  pub lists : (bytes : List ℕ) (t : Trace) → Accepts bytes t
      → (short : Bool) (width : ℕ) (clocks clocks' work work' list list' : List ℕ) (r : Result Summary Refusal)
      → ListSuffices (records_in bytes t) short width (length clocks) (length work) (length list)
      → Lists short bytes width clocks clocks' work work' list list' r → ListOpens (records_in bytes t) (Names list') r
