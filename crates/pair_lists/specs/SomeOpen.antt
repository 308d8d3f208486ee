-- "Also show that a trace with any race has an open one.": of both lists as pair structs. Assumes nothing.
use Rattle.std.specs.Prelude.{ℕ, Bool, List, length, Result}
use Rattle.records.specs.declared.Trace.{Trace}
use Rattle.trace.specs.Reading.{records_in, Accepts}
use Rattle.trace.specs.declared.Refusal.{Refusal}
use Rattle.races.specs.declared.Summary.{Summary}
use Rattle.races.specs.SomeOpen.{ListOpens}
use Rattle.pair_lists.specs.declared.Pair.{Pair}
use Rattle.pair_lists.specs.Pairs.{PairLists}
use Rattle.pair_lists.specs.Demand.{Names, PairListSuffices}

-- of every accepted trace, "whatever the lent spaces held before, so long as they and the clock width suffice for the call"
pub record SomeOpen : Type 0 where
  pub lists : (bytes : List ℕ) (t : Trace) → Accepts bytes t
      → (short : Bool) (width : ℕ) (clocks clocks' work work' numbers numbers' : List ℕ) (pairs pairs' : List Pair) (r : Result Summary Refusal)
      → PairListSuffices (records_in bytes t) short width (length clocks) (length work) (length numbers) (length pairs)
      → PairLists short bytes width clocks clocks' work work' numbers numbers' pairs pairs' r → ListOpens (records_in bytes t) (Names pairs') r
