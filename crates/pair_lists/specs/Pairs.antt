-- Both lists as pair structs: their entries, and the promise. Assumes nothing.
use Rattle.std.specs.Prelude.{ℕ, ◌+◌, ◌*◌, min, ◌≡◌, Bool, List, ◌++◌, map, length, drop, Result}
use Rattle.records.specs.declared.Record.{Record}
use Rattle.records.specs.declared.Operation.{Operation}
use Rattle.records.specs.declared.Var.{Var}
use Rattle.records.specs.Records.{at}
use Rattle.trace.specs.Reply.{Reply, unless}
use Rattle.trace.specs.Reading.{records_read}
use Rattle.order.specs.Lent.{clocks_after, work_after}
use Rattle.trace.specs.declared.Refusal.{Refusal}
use Rattle.races.specs.declared.Summary.{Summary}
use Rattle.races.specs.Lists.{entry_numbers, pairs_of, shape_of, mark_of, list_ready, list_reply, list_after}
use Rattle.races.specs.Paper.{list_paper}
use Rattle.pair_lists.specs.declared.Pair.{Pair}

abbrev pub operation : ℕ → Operation
operation n = record { 0 = n }

abbrev pub var : ℕ → Var
var n = record { 0 = n }

-- "An entry of either has first, second, cell, shape and mark."; records are numbered from 1
unfoldable pub pair_of : List Record → ℕ × ℕ → Pair
pair_of tr (a, b) = record {
  first = operation (a + 1);
  second = operation (b + 1);
  cell = var (at tr b).second;
  shape = shape_of tr a b;
  mark = mark_of tr a b;
}

-- "24: list space too short: fewer entries than the list has": of the two spaces the one with fewer entries counts, as a number of numbers
abbrev pub space : ℕ → ℕ → ℕ
space numbers pairs = min numbers (entry_numbers * pairs)

-- "list entries past the count and all other bytes are unchanged"
unfoldable pub pairs_after : List Record → Reply Summary → List (ℕ × ℕ) → List Pair → List Pair
pairs_after tr reply ps pairs = unless reply pairs (λ s. map (pair_of tr) ps ++ drop (length ps) pairs)

-- a list, short or of all races: the answer, the lent clocks, work space and numbers, and the lent pairs
pub record PairLists (short : Bool) (b : List ℕ) (width : ℕ) (clocks clocks' work work' numbers numbers' : List ℕ) (pairs pairs' : List Pair)
    (r : Result Summary Refusal) : Type 0 where
  pub answer : list_paper r ≡ list_reply short b width (length clocks) (length work) (space (length numbers) (length pairs))
  pub clocks-after : clocks' ≡ clocks_after b (list_ready b width (length clocks) (length work)) width clocks
  pub work-after : work' ≡ work_after (list_ready b width (length clocks) (length work)) work
  pub numbers_after : numbers' ≡ list_after (records_read b) (list_reply short b width (length clocks) (length work) (space (length numbers) (length pairs)))
      (pairs_of (records_read b) short) numbers
  pub pairs-after : pairs' ≡ pairs_after (records_read b) (list_reply short b width (length clocks) (length work) (space (length numbers) (length pairs)))
      (pairs_of (records_read b) short) pairs

-- a pair of zeros
abbrev pub no_pair : Pair
no_pair = record { first = operation 0; second = operation 0; cell = var 0; shape = 0; mark = 0 }
