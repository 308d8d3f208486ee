-- The third demand, as a statement about the answers of the two lists. Assumes nothing.
use Rattle.std.specs.Prelude.{ℕ, ◌+◌, ◌*◌, ◌/◌, ◌≤◌, ◌<◌, ◌≡◌, Bool, true, false, List, ◌↔◌, length, get_or, Result, Ok}
use Rattle.records.specs.declared.Record.{Record}
use Rattle.records.specs.declared.Trace.{Trace}
use Rattle.records.specs.Records.{at}
use Rattle.trace.specs.Reply.{refused}
use Rattle.trace.specs.Reading.{records_in, Accepts}
use Rattle.order.specs.Fill.{events_in, chains_used}
use Rattle.coverage.specs.Race.{Race}
use Rattle.coverage.specs.Cover.{Open}
use Rattle.coverage.specs.Arrangement.{Accessible}
use Rattle.trace.specs.declared.Refusal.{Refusal}
use Rattle.races.specs.declared.Summary.{Summary}
use Rattle.races.specs.Traces.{setting_of}
use Rattle.races.specs.Lists.{entry_numbers, pairs_of, list_reply}
use Rattle.races.specs.Paper.{Lists}

-- "A list calls a pair open by the mark of its entry": one of its first `count` entries, of five numbers each, is of records a and b (numbered
-- from 1) and has that mark
pub record Calls (list : List ℕ) (count a b mark : ℕ) : Type 0 where
  pub index : ℕ
  pub inside : index < count
  pub first : get_or list (entry_numbers * index + 0) 0 ≡ a + 1
  pub second : get_or list (entry_numbers * index + 1) 0 ≡ b + 1
  pub marked : get_or list (entry_numbers * index + 4) 0 ≡ mark

-- "the short list names a cell as open when it has an entry of that cell marked open"
pub record Names (list : List ℕ) (count cell : ℕ) : Type 0 where
  pub index : ℕ
  pub inside : index < count
  pub of_cell : get_or list (entry_numbers * index + 2) 0 ≡ cell
  pub open_mark : get_or list (entry_numbers * index + 4) 0 ≡ 1

-- "width and spaces suffice for a call when none of 21 to 24 applies to it": to a call on an accepted trace, with list space for that many entries
module _ (tr : List Record) where
  pub record Suffices (width clocks work entries needed : ℕ) : Type 0 where
    -- "21: clock width not 1 to 1,024, or clock space shorter than event actions × width."
    pub some_width : 1 ≤ width
    pub narrow : width ≤ 1024
    pub clock-space : events_in tr * width ≤ clocks
    -- "22: lists and the pair question only, work space shorter in bytes than the number of event actions."
    pub work-space : events_in tr ≤ work
    -- "23: the chain rule needs more chains than the width"
    pub enough-chains : chains_used tr ≤ width
    -- "24: list space too short": fewer entries than needed
    pub list-space : needed ≤ entries

  -- "24: .. fewer entries than the list has": an entry is five numbers
  abbrev pub ListSuffices : Bool → ℕ → ℕ → ℕ → ℕ → Type 0
  ListSuffices short width clocks work list = Suffices width clocks work (list / entry_numbers) (length (pairs_of tr short))

  -- "call the pair open exactly when the event actions can be arranged, each whole but the last, keeping happens-before and the order of all
  -- other races as document 01 defines, so that b is run and a is not. This is so exactly when no sequence of races covers the pair."
  pub record OpenBy (a b : ℕ) (calls : Type 0) : Type 0 where
    pub arranged : calls ↔ Accessible (setting_of tr) a b
    pub uncovered : calls ↔ Open (setting_of tr) a b

  -- a list, short or of all races, by what it calls a pair (a, b) with a mark, and which cells it names as open
  pub record ListDemand (short : Bool) (calls : ℕ → ℕ → ℕ → Type 0) (names : ℕ → Type 0) : Type 0 where
    -- "For every race (a, b) in it .. where it has the pair"
    pub marks : (a b mark : ℕ) → Race (setting_of tr) a b → calls a b mark → OpenBy a b (calls a b 1)
    -- "the list of all races" has every race
    pub whole : short ≡ false → (a b : ℕ) → Race (setting_of tr) a b → (mark : ℕ) × calls a b mark
    -- "For every cell, the short list names it as open exactly when some race on that cell, listed there or not, is open."
    pub cells : short ≡ true → (c : ℕ) → names c ↔ ((a b : ℕ) × Race (setting_of tr) a b × ((at tr b).second ≡ c) × Open (setting_of tr) a b)

  -- the list is made: its count is that of its entries, and they say what is asked
  pub record ListAnswers (short : Bool) (calls : ℕ → ℕ → ℕ → ℕ → Type 0) (names : ℕ → ℕ → Type 0) (r : Result Summary Refusal) : Type 0 where
    pub summary : Summary
    pub is_made : r ≡ Ok summary
    pub counted : summary.count ≡ length (pairs_of tr short)
    pub demand : ListDemand short (calls summary.count) (names summary.count)

-- `ListSuffices` says no more than that none of 21 to 24 applies: on an accepted trace a list is refused exactly where it fails
pub record ListsSuffice : Type 0 where
  pub lists : (bytes : List ℕ) (t : Trace) → Accepts bytes t → (short : Bool) (width clocks work list : ℕ)
      → ListSuffices (records_in bytes t) short width clocks work list ↔ ((n p : ℕ) → list_reply short bytes width clocks work list ≡ refused n p → ⊥)

-- "Take every accepted trace, whatever the lent spaces held before, so long as they and the clock width suffice for the call."
pub record ListsDemand : Type 0 where
  pub lists : (bytes : List ℕ) (t : Trace) → Accepts bytes t
      → (short : Bool) (width : ℕ) (clocks clocks' work work' list list' : List ℕ) (r : Result Summary Refusal)
      → ListSuffices (records_in bytes t) short width (length clocks) (length work) (length list)
      → Lists short bytes width clocks clocks' work work' list list' r → ListAnswers (records_in bytes t) short (Calls list') (Names list') r
