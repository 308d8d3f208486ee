-- How the event actions that lead to a record b are found by the clocks: from the row of b down. Definitions alone. Assumes nothing.
use Rattle.std.specs.Prelude.{ℕ, suc, ◌+◌, ◌*◌, ◌-◌, ◌≤◌, ◌<◌, max, ◌≡◌, ◌≢◌, ◌⊎◌, ◌↔◌, Bool, ◌&&◌, List, T, leb, ltb, length, get_or, drop}
use Rattle.records.specs.declared.Record.{Record}
use Rattle.records.specs.Records.{at, event_of}
use Rattle.records.specs.Kinds.{base_kind}
use Rattle.ranks.specs.Ranks.{ranks_of}
use Rattle.order.specs.Rank.{rank}
use Rattle.order.specs.HappensBefore.{happens_before}
use Rattle.order.specs.Fill.{chains_used}
use Rattle.coverage.specs.Leading.{leads}
use Rattle.races.specs.Traces.{is_access, setting_of}
use Rattle.pair.specs.loops.Leading.{mark, Marks}
use Rattle.races.specs.loops.FilledClocks.{rows, FilledClocks, Clear}

module _ (tr : List Record) where
  -- the row of a record's event action
  abbrev pub row_of : ℕ → ℕ
  row_of i = rank tr (event_of (at tr i)) - 1

  -- records lo to i are of one event action, and the one before lo is not
  pub record Starts (lo i : ℕ) : Type 0 where
    pub low : lo ≤ i
    pub same : (x : ℕ) → lo ≤ x → x ≤ i → event_of (at tr x) ≡ event_of (at tr i)
    pub parted : (y : ℕ) → suc y ≡ lo → event_of (at tr y) ≢ event_of (at tr i)

  -- the records of the rows from t on stand from hi on
  pub record Split (t hi : ℕ) : Type 0 where
    pub inside : hi ≤ length tr
    pub before : (x : ℕ) → x < hi → row_of x < t
    pub after : (x : ℕ) → hi ≤ x → x < length tr → t ≤ row_of x

  -- those of row t stand from lo on, before hi
  pub record Block (t lo hi : ℕ) : Type 0 where
    pub some : lo < hi
    pub from : Split t lo
    pub to : Split (suc t) hi

  -- 2 of a write, 1 of a read, 0 of any other record
  abbrev pub level : ℕ → ℕ
  level i = base_kind (at tr i) - 4

  -- one of the records from lo on, before hi, has that level or a higher one, and names cell c
  pub record Accessed (v c lo hi : ℕ) : Type 0 where
    pub position : ℕ
    pub from : lo ≤ position
    pub below : position < hi
    pub level_is : v ≤ level position
    pub cell-is : (at tr position).second ≡ c

  -- each cell's byte is now at least the level of such records
  pub record Noted (lo hi : ℕ) (cells cells' : List ℕ) : Type 0 where
    pub size : length cells' ≡ length cells
    pub tells : (v c : ℕ) → 0 < v → c < length cells → (v ≤ get_or cells' c 0) ↔ ((v ≤ get_or cells c 0) ⊎ Accessed v c lo hi)

  -- does record i conflict with a noted one: a write with any access of its cell, a read with a write?
  unfoldable pub clashes : List ℕ → ℕ → Bool
  clashes cells i = leb 5 (base_kind (at tr i)) && ltb 6 (base_kind (at tr i) + get_or cells (at tr i).second 0)

  -- one of the records from lo on, before hi, does
  abbrev pub OneClashes : List ℕ → ℕ → ℕ → Type 0
  OneClashes cells lo hi = (i : ℕ) × (lo ≤ i) × (i < hi) × T (clashes cells i)

-- a byte for each cell, at most 2
pub record Bytes (cells : List ℕ) : Type 0 where
  pub size : length cells ≡ 1025
  pub low : (c : ℕ) → get_or cells c 0 ≤ 2

-- the entries from `at` on are merged into the row
pub record Merged (clocks : List ℕ) (at chains : ℕ) (row row' : List ℕ) : Type 0 where
  pub size : length row' ≡ length row
  pub tells : (c : ℕ) → c < chains → get_or row' c 0 ≡ max (get_or row c 0) (get_or clocks (at + c) 0)

-- What passing a row takes: filled clocks, a byte for each row, an entry for each chain, a byte for each cell.
pub record Passing (tr : List Record) (chosen : List ℕ) (width chains : ℕ) (clocks work row cells : List ℕ) : Type 0 where
  pub filled : FilledClocks tr (ranks_of tr) chosen width clocks
  pub chains_are : chains ≡ chains_used tr
  pub work_room : rows tr ≤ length work
  pub row_room : 1024 ≤ length row
  pub cells_are : Bytes cells

-- past the rows nothing is written
pub record Rest (tr : List Record) (work work' : List ℕ) : Type 0 where
  pub size : length work' ≡ length work
  pub beyond : drop (rows tr) work' ≡ drop (rows tr) work

-- When the event actions of the rows from t on are passed, whose records stand from hi on; those that lead to b are kept:
module _ (tr : List Record) (b : ℕ) where
  -- a record before b of a kept event action has that level or a higher one, and names cell c
  pub record KeptAccess (v c hi : ℕ) : Type 0 where
    pub found : Accessed tr v c hi b
    pub leading : T (leads (setting_of tr) b (event_of (at tr found.position)))

  -- the event action of x happens before a kept one
  pub record Below (x hi : ℕ) : Type 0 where
    pub position : ℕ
    pub from : hi ≤ position
    pub inside : position < length tr
    pub leading : T (leads (setting_of tr) b (event_of (at tr position)))
    pub before : T (happens_before tr (event_of (at tr x)) (event_of (at tr position)))

  -- Kept rows are marked, cells' bytes are the levels of kept accesses, and an own entry is at most the row's just where its event action happens before a
  -- kept one.
  pub record Kept (chosen : List ℕ) (width : ℕ) (clocks : List ℕ) (t hi : ℕ) (work row cells : List ℕ) : Type 0 where
    pub low : hi ≤ b
    pub marks : (x : ℕ) → hi ≤ x → x < length tr → get_or work (row_of tr x) 0 ≡ mark (leads (setting_of tr) b (event_of (at tr x)))
    pub zeros : (r : ℕ) → r < t → get_or work r 0 ≡ 0
    pub levels : (v c : ℕ) → 0 < v → c < 1025 → (v ≤ get_or cells c 0) ↔ KeptAccess v c hi
    pub entries : (x : ℕ) → x < length tr →
        (get_or clocks (row_of tr x * width + get_or chosen (row_of tr x) 0) 0 ≤ get_or row (get_or chosen (row_of tr x) 0) 0) ↔ Below x hi

-- from the rows passed from t on to those from t' on, whatever b is
abbrev pub KeepsOn : List Record → List ℕ → ℕ → List ℕ → ℕ → ℕ → ℕ → ℕ → List ℕ → List ℕ → List ℕ → List ℕ → List ℕ → List ℕ → Type 0
KeepsOn tr chosen width clocks t hi t' hi' work row cells work' row' cells' =
    (b : ℕ) → T (is_access (at tr b)) → Kept tr b chosen width clocks t hi work row cells → Kept tr b chosen width clocks t' hi' work' row' cells'

module _ (tr : List Record) (chosen : List ℕ) (width chains : ℕ) (clocks : List ℕ) where
  -- what passing rows gives
  pub record Passes (t hi t' hi' : ℕ) (work row cells work' row' cells' : List ℕ) : Type 0 where
    pub again : Passing tr chosen width chains clocks work' row' cells'
    pub rest : Rest tr work work'
    pub row_size : length row' ≡ length row
    pub keeps : KeepsOn tr chosen width clocks t hi t' hi' work row cells work' row' cells'

  -- what passing all rows before u gives
  pub record PassesAll (u end : ℕ) (work row cells work' row' cells' : List ℕ) : Type 0 where
    pub start : ℕ
    pub split : Split tr 0 start
    pub passes : Passes u end 0 start work row cells work' row' cells'

-- What marking takes: b an access, u its row, and a work space that is 0 over one byte for each event action.
pub record Markable (tr : List Record) (chosen : List ℕ) (width chains : ℕ) (clocks work row : List ℕ) (u b : ℕ) : Type 0 where
  pub filled : FilledClocks tr (ranks_of tr) chosen width clocks
  pub chains_are : chains ≡ chains_used tr
  pub clear : Clear tr (rows tr) work
  pub row_room : 1024 ≤ length row
  pub access : T (is_access (at tr b))
  pub row_is : u ≡ row_of tr b

-- what it gives
pub record MarksKept (tr : List Record) (b : ℕ) (work work' : List ℕ) : Type 0 where
  pub marks : Marks tr (ranks_of tr) work' b
  pub rest : Rest tr work work'
