-- The shortest retelling, as a statement about what the pair question writes. Assumes nothing.
use Rattle.std.specs.Prelude.{ℕ, ◌+◌, ◌≡◌, List, map, length, Result, Ok}
use Rattle.records.specs.declared.Record.{Record}
use Rattle.records.specs.declared.Trace.{Trace}
use Rattle.trace.specs.Reading.{records_in, Accepts}
use Rattle.coverage.specs.Race.{Race}
use Rattle.coverage.specs.Retelling.{Shortest}
use Rattle.races.specs.Traces.{setting_of}
use Rattle.races.specs.SomeOpen.{SomeOpen}
use Rattle.trace.specs.declared.Refusal.{Refusal}
use Rattle.pair.specs.declared.Verdict.{Verdict}
use Rattle.pair.specs.declared.Verdict.TheVariants as pair
use Rattle.pair.specs.Pair.{kept_entry, with_entries, PairPromise}
use Rattle.pair.specs.Demand.{PairSuffices}

-- the arrangement given for an open race (a, b), by position: the entries (event, last record kept) that are written are those of the shortest one
pub record GivesShortest (tr : List Record) (a b count : ℕ) (list list' : List ℕ) : Type 0 where
  pub kept : List (ℕ × ℕ)
  pub shortest : Shortest (setting_of tr) a b kept
  pub count-is : count ≡ length kept
  pub list_is : list' ≡ with_entries (map kept_entry kept) list

-- "Take every accepted trace, whatever the lent spaces held before, so long as they and the clock width suffice for the call."
pub record ShortestRetelling : Type 0 where
  -- "For every open race, show that each arrangement running the second access without the first contains all event actions of the one given."
  pub pairs : (bytes : List ℕ) (t : Trace) → Accepts bytes t
      → (width : ℕ) (clocks clocks' work work' list list' : List ℕ) (a b : ℕ) (r : Result Verdict Refusal)
      → PairSuffices (records_in bytes t) width (length clocks) (length work) (length list) → Race (setting_of (records_in bytes t)) a b
      → PairPromise bytes width clocks clocks' work work' list list' (a + 1) (b + 1) r
      → (count : ℕ) → r ≡ Ok (pair.Open count) → GivesShortest (records_in bytes t) a b count list list'
  -- "Also show that a trace with any race has an open one."
  pub some-open : SomeOpen
