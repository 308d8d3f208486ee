-- What the list over numbers leaves, and how its entries are copied. Assumes nothing.
use Rattle.std.specs.Prelude.{ℕ, zero, suc, ◌+◌, ◌*◌, ◌≡◌, Bool, List, length, get_or, set, Result, Ok, Err}
use Rattle.trace.specs.Reading.{records_read}
use Rattle.order.specs.Lent.{clocks_after, work_after}
use Rattle.trace.specs.declared.Refusal.{Refusal}
use Rattle.races.specs.declared.Summary.{Summary}
use Rattle.races.specs.Lists.{entry_numbers, pairs_of, list_ready, list_reply, list_after}
use Rattle.races.specs.Paper.{list_paper}
use Rattle.pair_lists.specs.declared.Pair.{Pair}
use Rattle.pair_lists.specs.Pairs.{operation, var, space}

-- the entries of a list that was made; a refused one has none
abbrev pub count_in : Result Summary Refusal → ℕ
count_in (Ok s) = s.count
count_in (Err f) = 0

-- a list over numbers that has at most `room` entries
pub record Within (short : Bool) (b : List ℕ) (width : ℕ) (clocks clocks' work work' numbers numbers' : List ℕ) (room : ℕ)
    (r : Result Summary Refusal) : Type 0 where
  pub answer : list_paper r ≡ list_reply short b width (length clocks) (length work) (space (length numbers) room)
  pub clocks-after : clocks' ≡ clocks_after b (list_ready b width (length clocks) (length work)) width clocks
  pub work-after : work' ≡ work_after (list_ready b width (length clocks) (length work)) work
  pub numbers_after : numbers' ≡ list_after (records_read b) (list_reply short b width (length clocks) (length work) (space (length numbers) room))
      (pairs_of (records_read b) short) numbers

-- the pair that the numbers say at place i
abbrev pub pair_at : List ℕ → ℕ → Pair
pair_at l i = record {
  first = operation (get_or l (entry_numbers * i) 0);
  second = operation (get_or l (entry_numbers * i + 1) 0);
  cell = var (get_or l (entry_numbers * i + 2) 0);
  shape = get_or l (entry_numbers * i + 3) 0;
  mark = get_or l (entry_numbers * i + 4) 0;
}

-- the first n places are set, in their order
abbrev pub puts : List Pair → List ℕ → ℕ → List Pair
puts ps l zero = ps
puts ps l (suc n) = set (puts ps l n) n (pair_at l n)
