-- How the lists are made: for each second access, the first accesses from some place on. `ListLaws` proves that this gives the lists. Definitions
-- alone. Assumes nothing.
use Rattle.std.specs.Prelude.{ℕ, zero, suc, ◌+◌, ◌*◌, ◌-◌, ◌/◌, ◌≤◌, ◌<◌, ◌≡◌, Bool, true, false, cond, ◌&&◌, List, [], ◌∷◌, ◌++◌, map, T, leb, length}
use Rattle.std.proofs.lemmas.List.Edits.{sets}
use Rattle.records.specs.declared.Record.{Record}
use Rattle.records.specs.Records.{at, event_of}
use Rattle.order.specs.Rank.{rank}
use Rattle.coverage.specs.Below.{upto}
use Rattle.coverage.specs.Race.{raceb}
use Rattle.races.specs.Traces.{is_access, setting_of}
use Rattle.races.specs.Lists.{entry_numbers, shape_of, numbers}
use Rattle.races.specs.loops.Candidates.{cell, start_of, Range}
use Rattle.records.specs.Search.{least_kind, may_race}
use Rattle.races.specs.loops.FilledClocks.{FilledClocks}

module _ (tr : List Record) where
  -- from where on first accesses of b are looked for: from the start of its cell
  abbrev pub from_of : Bool → ℕ → ℕ
  from_of short b = start_of tr short (cell tr b) b

  -- the first accesses below i, from there on, that race with b
  unfoldable pub firsts : ℕ → ℕ → ℕ → List ℕ
  firsts from b i = upto i (λ a. leb from a && raceb (setting_of tr) a b)

  abbrev pub with_second : ℕ → List ℕ → List (ℕ × ℕ)
  with_second b xs = map (λ a. (a, b)) xs

  -- the pairs with a second below b
  unfoldable pub listed_below : Bool → ℕ → List (ℕ × ℕ)
  listed_below short zero = []
  listed_below short (suc b) = listed_below short b ++ with_second b (firsts (from_of short b) b b)

  -- an entry whose mark is not known yet
  unfoldable pub raw : ℕ → ℕ → List ℕ
  raw a b = (a + 1) ∷ (b + 1) ∷ (at tr b).second ∷ shape_of tr a b ∷ 0 ∷ []

  unfoldable pub raws : List (ℕ × ℕ) → List ℕ
  raws [] = []
  raws ((a, b) ∷ ps) = raw a b ++ raws ps

-- the way to b that the code finds has all that race with it
pub record Ranges (tr : List Record) (short : Bool) (b from to : ℕ) : Type 0 where
  pub range : Range tr b from to
  pub firsts_are : firsts tr (from_of tr short b) b b ≡ firsts tr from b b

-- an access b of a trace whose clocks are filled, and its row
pub record Second (tr : List Record) (ranks chosen : List ℕ) (width : ℕ) (clocks : List ℕ) (b u : ℕ) : Type 0 where
  pub filled : FilledClocks tr ranks chosen width clocks
  pub inside : b < length tr
  pub access : T (is_access (at tr b))
  pub row : u ≡ rank tr (event_of (at tr b)) - 1

-- what one pair of records asks for, and what becomes of entry k, written or only counted
pub record OneRoom (writing : Bool) (tr : List Record) (ranks chosen : List ℕ) (width : ℕ) (clocks : List ℕ) (a b u k : ℕ) (list : List ℕ) : Type 0 where
  pub second : Second tr ranks chosen width clocks b u
  pub earlier : a < b
  pub may : T (may_race tr (least_kind (at tr b).kind) (cell tr b) a)
  pub few : k ≤ 4096 * b + a
  pub space : T writing → raceb (setting_of tr) a b ≡ true → entry_numbers * k + entry_numbers ≤ length list

abbrev pub entry_if : Bool → List Record → ℕ → ℕ → ℕ → List ℕ → List ℕ
entry_if true tr a b k list = sets list (entry_numbers * k) (raw tr a b)
entry_if false tr a b k list = list

pub record OneWrites (writing : Bool) (tr : List Record) (a b k : ℕ) (list list' : List ℕ) (r : ℕ) : Type 0 where
  pub next : r ≡ cond (raceb (setting_of tr) a b) (k + 1) k
  pub list_is : list' ≡ entry_if (raceb (setting_of tr) a b && writing) tr a b k list

-- list space for its entries from entry k on, where they are written
pub record RoomIf (writing : Bool) (tr : List Record) (b from k : ℕ) (list : List ℕ) : Type 0 where
  pub few : k ≤ 4096 * b
  pub space : T writing → entry_numbers * (k + length (firsts tr from b b)) ≤ length list

-- its entries are written from entry k on, or only counted
pub record Writes (writing : Bool) (tr : List Record) (b from k : ℕ) (list list' : List ℕ) (r : ℕ) : Type 0 where
  pub next : r ≡ k + length (firsts tr from b b)
  pub list_is : list' ≡ cond writing (sets list (entry_numbers * k) (raws tr (with_second tr b (firsts tr from b b)))) list

-- so are all entries
pub record WritesAll (writing : Bool) (tr : List Record) (short : Bool) (list list' : List ℕ) (r : ℕ) : Type 0 where
  pub count : r ≡ length (listed_below tr short (length tr))
  pub list_is : list' ≡ cond writing (sets list 0 (raws tr (listed_below tr short (length tr)))) list

-- so many entries hold the list of a trace of n records, whatever it is: the short list has at most two for a record
pub record Ample (short : Bool) (n entries : ℕ) : Type 0 where
  pub for_short : short ≡ true → 2 * n ≤ entries
  pub for_all : short ≡ false → n * n / 2 ≤ entries

-- r tells whether a list space holds the entries, and whether there are any
pub record Counts (tr : List Record) (short : Bool) (space r : ℕ) : Type 0 where
  pub fits : r ≤ space / entry_numbers → length (listed_below tr short (length tr)) ≤ space / entry_numbers
  pub long : space / entry_numbers < r → space / entry_numbers < length (listed_below tr short (length tr))
  pub none : r ≡ 0 → length (listed_below tr short (length tr)) ≡ 0

-- all entries are written, with their marks
pub record ListsAll (tr : List Record) (short : Bool) (list list' : List ℕ) (r : ℕ) : Type 0 where
  pub count : r ≡ length (listed_below tr short (length tr))
  pub list_is : list' ≡ sets list 0 (numbers tr (listed_below tr short (length tr)))
