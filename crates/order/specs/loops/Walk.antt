-- Rows merged along the links of the records, from one record on up to the next begin. Definitions alone. Assumes nothing.
use Rattle.std.specs.Prelude.{ℕ, zero, suc, ◌-◌, max, ◌≡◌, Bool, true, false, List, eqb, length, get_or, set}
use Rattle.records.specs.declared.Record.{Record}
use Rattle.records.specs.Records.{at}
use Rattle.ranks.specs.declared.Ordering.{Ordering}
use Rattle.ranks.specs.declared.Ordering.TheVariants.{Link, Begin, Nothing}
use Rattle.ranks.specs.OrderingOf.{ordering_of}
use Rattle.clocks.specs.Rows.{rows_if, merge_row, copy_row}

-- the position reached, and the clocks there
pub record Walked : Type 0 where
  pub position : ℕ
  pub clocks : List ℕ

-- a begin stops the walk; at a link row p is merged into row u
abbrev pub stops : Ordering → Bool
stops (Link p u) = false
stops (Begin u) = true
stops Nothing = false

abbrev pub merged_with : ℕ → ℕ → Ordering → List ℕ → List ℕ
merged_with width chains (Link p u) cs = merge_row width chains p u cs
merged_with width chains (Begin u) cs = cs
merged_with width chains Nothing cs = cs

-- one record's part
pub record Takes (width chains : ℕ) (o : Ordering) (cs cs' : List ℕ) (stopped : Bool) : Type 0 where
  pub stopped_is : stopped ≡ stops o
  pub clocks_are : cs' ≡ merged_with width chains o cs

abbrev pub walk_on : Bool → ℕ → List ℕ → (List ℕ → Walked) → Walked
walk_on true i cs on = record { position = i; clocks = cs }
walk_on false i cs on = on cs

-- from record i on, where k records are left
unfoldable pub walk : (ℕ → Ordering) → ℕ → ℕ → ℕ → ℕ → List ℕ → Walked
walk op width chains zero i cs = record { position = i; clocks = cs }
walk op width chains (suc k) i cs = walk_on (stops (op i)) i (merged_with width chains (op i) cs) (walk op width chains k (suc i))

-- what the records say, by a list of ranks
abbrev pub ordering_by : List Record → List ℕ → ℕ → Ordering
ordering_by tr ranks i = ordering_of (λ e. get_or ranks e 0) (at tr i)

-- the walk over the records of a trace, from record `from` on
unfoldable pub walk_from : List Record → List ℕ → ℕ → ℕ → ℕ → List ℕ → Walked
walk_from tr ranks width chains from cs = walk (ordering_by tr ranks) width chains (length tr - from) from cs

abbrev pub Walks : List Record → List ℕ → ℕ → ℕ → ℕ → List ℕ → List ℕ → ℕ → Type 0
Walks tr ranks width chains from cs cs' r = walk_from tr ranks width chains from cs ≡ record { position = r; clocks = cs' }

-- The walk that fills. Its list holds the chain of each row that has begun, and for any other a hint: 1,024 less the lowest chain of the rows
-- from which a link came to it, 0 where none came. The first link to a row copies, whatever the row held.
abbrev pub linked_by : ℕ → ℕ → Ordering → List ℕ → List ℕ → List ℕ
linked_by width chains (Link p u) hs cs = rows_if (eqb (get_or hs u 0) 0) (copy_row width chains p u cs) (merge_row width chains p u cs)
linked_by width chains (Begin u) hs cs = cs
linked_by width chains Nothing hs cs = cs

abbrev pub hinted_by : Ordering → List ℕ → List ℕ
hinted_by (Link p u) hs = set hs u (max (get_or hs u 0) (1024 - get_or hs p 0))
hinted_by (Begin u) hs = hs
hinted_by Nothing hs = hs

pub record TakesLink (width chains : ℕ) (o : Ordering) (cs hs cs' hs' : List ℕ) (stopped : Bool) : Type 0 where
  pub stopped_is : stopped ≡ stops o
  pub clocks_are : cs' ≡ linked_by width chains o hs cs
  pub hints_are : hs' ≡ hinted_by o hs

pub record FillWalked : Type 0 where
  pub position : ℕ
  pub clocks : List ℕ
  pub hints : List ℕ

abbrev pub fill_on : Bool → ℕ → List ℕ → List ℕ → (List ℕ → List ℕ → FillWalked) → FillWalked
fill_on true i cs hs on = record { position = i; clocks = cs; hints = hs }
fill_on false i cs hs on = on cs hs

unfoldable pub fill_walk : (ℕ → Ordering) → ℕ → ℕ → ℕ → ℕ → List ℕ → List ℕ → FillWalked
fill_walk op width chains zero i cs hs = record { position = i; clocks = cs; hints = hs }
fill_walk op width chains (suc k) i cs hs =
    fill_on (stops (op i)) i (linked_by width chains (op i) hs cs) (hinted_by (op i) hs) (fill_walk op width chains k (suc i))

abbrev pub FillWalks : List Record → List ℕ → ℕ → ℕ → ℕ → List ℕ → List ℕ → List ℕ → List ℕ → ℕ → Type 0
FillWalks tr ranks width chains from cs hs cs' hs' r =
    fill_walk (ordering_by tr ranks) width chains (length tr - from) from cs hs ≡ record { position = r; clocks = cs'; hints = hs' }
