-- The third demand for the lists as pair structs. Assumes nothing.
use Rattle.std.specs.Prelude.{ℕ, ◌+◌, ◌/◌, ◌<◌, min, ◌≡◌, Bool, List, length, get_or, Result}
use Rattle.records.specs.declared.Record.{Record}
use Rattle.records.specs.declared.Trace.{Trace}
use Rattle.trace.specs.Reading.{records_in, Accepts}
use Rattle.trace.specs.declared.Refusal.{Refusal}
use Rattle.races.specs.declared.Summary.{Summary}
use Rattle.races.specs.Lists.{entry_numbers, pairs_of}
use Rattle.races.specs.Demand.{Suffices, ListAnswers}
use Rattle.pair_lists.specs.declared.Pair.{Pair}
use Rattle.pair_lists.specs.Pairs.{no_pair, PairLists}

-- "A list calls a pair open by the mark of its entry": one of its first `count` pairs is of records a and b (numbered from 1) and has that mark
pub record Calls (pairs : List Pair) (count a b mark : ℕ) : Type 0 where
  pub index : ℕ
  pub inside : index < count
  pub first : (get_or pairs index no_pair).first.0 ≡ a + 1
  pub second : (get_or pairs index no_pair).second.0 ≡ b + 1
  pub marked : (get_or pairs index no_pair).mark ≡ mark

-- "the short list names a cell as open when it has an entry of that cell marked open"
pub record Names (pairs : List Pair) (count cell : ℕ) : Type 0 where
  pub index : ℕ
  pub inside : index < count
  pub of_cell : (get_or pairs index no_pair).cell.0 ≡ cell
  pub open_mark : (get_or pairs index no_pair).mark ≡ 1

-- "24: list space too short: fewer entries than the list has": of the two spaces the one with fewer entries counts
abbrev pub PairListSuffices : List Record → Bool → ℕ → ℕ → ℕ → ℕ → ℕ → Type 0
PairListSuffices tr short width clocks work numbers pairs = Suffices tr width clocks work (min (numbers / entry_numbers) pairs) (length (pairs_of tr short))

-- "Take every accepted trace, whatever the lent spaces held before, so long as they and the clock width suffice for the call."
pub record ThirdDemand : Type 0 where
  pub lists : (bytes : List ℕ) (t : Trace) → Accepts bytes t
      → (short : Bool) (width : ℕ) (clocks clocks' work work' numbers numbers' : List ℕ) (pairs pairs' : List Pair) (r : Result Summary Refusal)
      → PairListSuffices (records_in bytes t) short width (length clocks) (length work) (length numbers) (length pairs)
      → PairLists short bytes width clocks clocks' work work' numbers numbers' pairs pairs' r
      → ListAnswers (records_in bytes t) short (Calls pairs') (Names pairs') r
