-- The pair question: its reply, and the lent memory at its end. Assumes nothing.
use Rattle.std.specs.Prelude.{ℕ, ◌+◌, ◌-◌, ◌/◌, ◌≡◌, Bool, true, false, ◌&&◌, List, [], ◌∷◌, ◌++◌, map, leb, length, drop, Result, Ok, Err}
use Rattle.records.specs.declared.Record.{Record}
use Rattle.records.specs.declared.Trace.{Trace}
use Rattle.trace.specs.Reply.{Reply, refused, gives, demand}
use Rattle.trace.specs.Paper.{number_of}
use Rattle.trace.specs.Reading.{records_in, records_read}
use Rattle.order.specs.Lent.{asking, work_for, spaced, on_clocks, clocks_after, work_after}
use Rattle.coverage.specs.Race.{raceb}
use Rattle.coverage.specs.Cover.{Covers}
use Rattle.coverage.specs.Leading.{coveredb, entries}
use Rattle.trace.specs.declared.Refusal.{Refusal}
use Rattle.pair.specs.declared.Verdict.{Verdict}
use Rattle.pair.specs.declared.Verdict.TheVariants.{Open, Covered}
use Rattle.races.specs.Traces.{setting_of}

-- "entries (event, last record kept)", "a cover as entries (first, second)"
abbrev pub entry_numbers : ℕ
entry_numbers = 2

-- a race is open, with the number of entries; or covered, where "Only one part is free, the cover given for a covered pair"
pub data PairMark : Type 0 where
  is_open : ℕ → PairMark
  is_covered : PairMark

abbrev pub pair_paper : Result Verdict Refusal → Reply PairMark
pair_paper (Ok (Open k)) = gives (is_open k)
pair_paper (Ok (Covered k)) = gives is_covered
pair_paper (Err f) = refused (number_of f.reason) f.place.0

-- the number of entries that the answer names
abbrev pub entries_given : Result Verdict Refusal → ℕ
entries_given (Ok (Open k)) = k
entries_given (Ok (Covered k)) = k
entries_given (Err f) = 0

-- "Record numbers run from 1 in trace order."
unfoldable pub is_record : List Record → ℕ → Bool
is_record tr n = leb 1 n && leb n (length tr)

-- "11: .. a record asked about is not in it."
unfoldable pub are_records : List Record → ℕ → ℕ → Bool
are_records tr a b = is_record tr a && is_record tr b

-- the mark of a race, with the number of entries of an open one
unfoldable pub answered : Bool → ℕ → PairMark
answered true n = is_covered
answered false n = is_open n

-- Records a and b by position, clocks filled. "12: the two records asked about are no race, first then second."; "24: list space too short: .. for the
-- pair question fewer than event actions".
unfoldable pub pair_filled : List Record → ℕ → ℕ → ℕ → ℕ → Reply PairMark
pair_filled tr events list_space a b =
    demand (raceb (setting_of tr) a b) 12 0
    (demand (leb events (list_space / entry_numbers)) 24 0
    (gives (answered (coveredb (setting_of tr) a b) (length (entries (setting_of tr) b)))))

-- The trace that the pair question goes on with, a and b by record number: 1 to 10, 11, 21, 22.
unfoldable pub pair_ready : List ℕ → ℕ → ℕ → ℕ → ℕ → ℕ → Reply Trace
pair_ready bytes width clocks work a b = spaced (asking bytes (λ t. are_records (records_in bytes t) a b)) width clocks (work_for work)

-- then 23; "12 stands between 23 and 24"
unfoldable pub pair_reply : List ℕ → ℕ → ℕ → ℕ → ℕ → ℕ → ℕ → Reply PairMark
pair_reply bytes width clocks work list_space a b =
    on_clocks bytes (pair_ready bytes width clocks work a b) width (λ t. pair_filled (records_in bytes t) t.events list_space (a - 1) (b - 1))

-- entries in the list space, two numbers for each
abbrev pub flat : List (ℕ × ℕ) → List ℕ
flat [] = []
flat (e ∷ es) = e.0 ∷ e.1 ∷ flat es

-- "list entries past the count and all other bytes are unchanged"
unfoldable pub with_entries : List (ℕ × ℕ) → List ℕ → List ℕ
with_entries es list = flat es ++ drop (length (flat es)) list

-- "in trace order, as entries (event, last record kept)": the record by its number
abbrev pub kept_entry : ℕ × ℕ → ℕ × ℕ
kept_entry e = (e.0, e.1 + 1)

unfoldable pub kept_entries : List Record → ℕ → List (ℕ × ℕ)
kept_entries tr b = map kept_entry (entries (setting_of tr) b)

-- "For a covered pair it gives a cover as entries (first, second).": both by their numbers
abbrev pub race_entry : ℕ × ℕ → ℕ × ℕ
race_entry e = (e.0 + 1, e.1 + 1)

unfoldable pub race_entries : List (ℕ × ℕ) → List (ℕ × ℕ)
race_entries cs = map race_entry cs

-- the free part: "its entries are, in order, a sequence of races of the trace that covers the pair as defined above, and its count is their number"
pub record GivesCover (tr : List Record) (a b count : ℕ) (list list' : List ℕ) : Type 0 where
  pub races : List (ℕ × ℕ)
  pub covers : Covers (setting_of tr) races a b
  pub count-is : count ≡ length races
  pub list_is : list' ≡ with_entries (race_entries races) list

-- the list space by the reply, for records a and b by position and the number of entries given
abbrev pub ListAfter : List Record → ℕ → ℕ → Reply PairMark → ℕ → List ℕ → List ℕ → Type 0
ListAfter tr a b (refused n p) count list list' = list' ≡ list
ListAfter tr a b (gives (is_open n)) count list list' = list' ≡ with_entries (kept_entries tr b) list
ListAfter tr a b (gives is_covered) count list list' = GivesCover tr a b count list list'

-- The promise of the pair question: the answer, and all that is lent.
pub record PairPromise (bytes : List ℕ) (width : ℕ) (clocks clocks' work work' list list' : List ℕ) (a b : ℕ) (r : Result Verdict Refusal) : Type 0 where
  pub answer : pair_paper r ≡ pair_reply bytes width (length clocks) (length work) (length list) a b
  pub clocks-after : clocks' ≡ clocks_after bytes (pair_ready bytes width (length clocks) (length work) a b) width clocks
  pub work-after : work' ≡ work_after (pair_ready bytes width (length clocks) (length work) a b) work
  pub list-after : ListAfter (records_read bytes) (a - 1) (b - 1) (pair_reply bytes width (length clocks) (length work) (length list) a b)
      (entries_given r) list list'
