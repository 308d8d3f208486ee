-- How the entries of a list are marked by the rows of the combined order, made in place in the clocks: what is asked for and what is given. Assumes nothing.
use Rattle.std.specs.Prelude.{ℕ, zero, suc, ◌+◌, ◌*◌, ◌-◌, ◌≤◌, ◌<◌, max, ◌≡◌, ◌≢◌, Bool, true, false, cond, List, ◌++◌, eqb, length, get_or, drop}
use Rattle.records.specs.declared.Record.{Record}
use Rattle.records.specs.Records.{at}
use Rattle.records.specs.Kinds.{has_send}
use Rattle.order.specs.Fill.{events_in}
use Rattle.order.specs.loops.Walk.{walk_from}
use Rattle.races.specs.Lists.{entry_numbers, pairs_of, mark_of, numbers}
use Rattle.races.specs.loops.ListPass.{raws}
use Rattle.races.specs.loops.Marking.{first, second, Remarked}
use Rattle.races.specs.loops.FilledClocks.{RowsIn}
use Rattle.races.specs.loops.Leading.{lead_in, MayLead}
use Rattle.clocks.specs.Rows.{compare_in, rows_if, merge_row}

-- The list has the entries of the short list, or of the list of all races, their marks still 0.
pub record Unmarked (tr : List Record) (list : List ℕ) (count : ℕ) : Type 0 where
  pub short : Bool
  pub count-is : count ≡ length (pairs_of tr short)
  pub list_is : list ≡ raws tr (pairs_of tr short) ++ drop (entry_numbers * count) list

-- All marks are right, and the clocks are as before.
pub record MarksList (tr : List Record) (clocks clocks' list list' : List ℕ) (count : ℕ) : Type 0 where
  pub clocks_stay : clocks' ≡ clocks
  pub remarked : Remarked tr 0 count list list'
  pub list_is : (u : Unmarked tr list count) → list' ≡ numbers tr (pairs_of tr u.short) ++ drop (entry_numbers * count) list

-- the row of record i's event action, by a list of ranks
abbrev pub row_in : List Record → List ℕ → ℕ → ℕ
row_in tr ranks i = get_or ranks (at tr i).first 0 - 1

-- "mark (open or covered)": 0 where row t leads to row u as it stands, else 1
abbrev pub mark_in : List ℕ → ℕ → List ℕ → ℕ → ℕ → ℕ
mark_in chosen width clocks t u = cond (compare_in clocks width (get_or chosen t 0) t u) 0 1

-- the entries from k on that have one second access, whose row u is at hand: their marks are told by the rows
pub record Markable (tr : List Record) (ranks chosen : List ℕ) (width : ℕ) (clocks : List ℕ) (u : ℕ) (list : List ℕ) (k count : ℕ) : Type 0 where
  pub room : entry_numbers * count ≤ length list
  pub some : k < count
  pub numbers : (i : ℕ) → k ≤ i → i < count → 0 < first list i
  pub rows : (i : ℕ) → k ≤ i → i < count → second list i ≡ second list k → RowsIn chosen width clocks (row_in tr ranks (first list i - 1)) u
  pub marks : (i : ℕ) → k ≤ i → i < count → second list i ≡ second list k →
      mark_in chosen width clocks (row_in tr ranks (first list i - 1)) u ≡ mark_of tr (first list i - 1) (second list i - 1)

-- they are marked, and e is the entry after them
pub record MarksSecond (tr : List Record) (list list' : List ℕ) (k count e : ℕ) : Type 0 where
  pub ahead : k < e
  pub within : e ≤ count
  pub same : (i : ℕ) → k ≤ i → i < e → second list i ≡ second list k
  pub else : e < count → second list e ≢ second list k
  pub remarked : Remarked tr k e list list'

-- Of the d entries from k on, the last first: the row of an open one is merged into row u, down to the first one whose first access writes (shape not 3).
module _ (tr : List Record) (ranks : List ℕ) (width chains u : ℕ) (list : List ℕ) where
  unfoldable pub raise_by : ℕ → List ℕ → List ℕ
  raise_by j clocks = rows_if (eqb (get_or list (entry_numbers * j + 4) 0) 1) (merge_row width chains (row_in tr ranks (first list j - 1)) u clocks) clocks

  unfoldable pub raise_down : ℕ → ℕ → List ℕ → List ℕ
  raise_down k zero clocks = clocks
  raise_down k (suc d) clocks = let raised = raise_by (k + d) clocks in
      rows_if (eqb (get_or list (entry_numbers * (k + d) + 3) 0) 3) (raise_down k d raised) raised

-- Where raising stands: at that row, with the chains taken by it and those before; and the clocks. Without a send, position is that of the row's begin.
pub record Place : Type 0 where
  pub row : ℕ
  pub position : ℕ
  pub chains : ℕ
  pub clocks : List ℕ

abbrev pub place_at : ℕ → ℕ → ℕ → List ℕ → Place
place_at row position chains clocks = record { row = row; position = position; chains = chains; clocks = clocks }

module _ (chosen : List ℕ) (width : ℕ) where
  -- the chains taken up to the next row
  abbrev more_chains : Place → ℕ
  more_chains s = max s.chains (get_or chosen (s.row + 1) 0 + 1)

  -- on to the next row, by the records: rows are merged along the links up to its begin
  unfoldable pub by_records : List Record → List ℕ → Place → Place
  by_records tr ranks s =
      let r = walk_from tr ranks width s.chains (s.position + 1) s.clocks in
      place_at (s.row + 1) r.position (more_chains s) r.clocks

  -- on to the next row, by the clocks alone
  unfoldable pub by_clocks : Place → Place
  by_clocks s = place_at (s.row + 1) s.position (more_chains s) (lead_in chosen width s.chains (s.row + 1) s.clocks)

  -- records don't say all direct links of a trace with a send
  abbrev pub onward_by : Bool → List Record → List ℕ → Place → Place
  onward_by true tr ranks = by_clocks
  onward_by false tr ranks = by_records tr ranks

abbrev pub onward : List Record → List ℕ → List ℕ → ℕ → Place → Place
onward tr ranks chosen width = onward_by chosen width (has_send tr) tr ranks

-- that many rows on
unfoldable pub goes : (Place → Place) → ℕ → Place → Place
goes on zero s = s
goes on (suc k) s = goes on k (on s)

-- what going on to row u asks for and gives
pub record MayGo (tr : List Record) (chosen : List ℕ) (width : ℕ) (clocks : List ℕ) (row position u : ℕ) : Type 0 where
  pub ahead : row ≤ u
  pub rows : MayLead chosen width clocks u
  pub inside : position ≤ length tr

pub record Went (on : Place → Place) (row position chains : ℕ) (clocks : List ℕ) (u row' position' chains' : ℕ) (clocks' : List ℕ) : Type 0 where
  pub goes_on : goes on (u - row) (place_at row position chains clocks) ≡ place_at row' position' chains' clocks'

-- all entries are marked, and what is past the rows is as before
pub record MarksAll (tr : List Record) (width : ℕ) (clocks clocks' list list' : List ℕ) (count : ℕ) : Type 0 where
  pub remarked : Remarked tr 0 count list list'
  pub past_rows : drop (events_in tr * width) clocks' ≡ drop (events_in tr * width) clocks
