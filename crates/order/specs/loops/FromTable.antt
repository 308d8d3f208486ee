-- The row of an event action straight from the order: each event action before it, in order of begin, leaves its own entry at its chain.
-- Definitions alone. Assumes nothing.
use Rattle.std.specs.Prelude.{ℕ, zero, suc, ◌+◌, ◌*◌, ◌-◌, ◌≤◌, ◌<◌, ◌≡◌, Bool, cond, ◌&&◌, List, ◌++◌, eqb, length, get_or, set, drop, replicate}
use Rattle.clocks.specs.Rows.{rows_if, clear_row}
use Rattle.order.specs.Links.{Links, Forward, leq}
use Rattle.order.specs.Chains.{used, needs}
use Rattle.order.specs.Clocks.{table, chain_of, clocks_of}
use Rattle.order.specs.Fill.{no_chains}
use Rattle.order.specs.loops.Pass.{Rows, begin_row, RoomToBegin}

-- the entry at chain c after the first k event actions, over any row; `own` tells own entries, `before` those to take
module _ (ch own : ℕ → ℕ) (before : ℕ → Bool) (row : ℕ → ℕ) where
  unfoldable pub row_from : ℕ → ℕ → ℕ
  row_from zero c = row c
  row_from (suc t) c = cond (eqb (ch t) c && before t) (own t) (row_from t c)

-- in clocks, where a list holds the chain of each row: row u at t's chain becomes t's own entry
unfoldable pub take_own : ℕ → ℕ → List ℕ → ℕ → List ℕ → List ℕ
take_own width u chosen t cs = set cs (u * width + get_or chosen t 0) (get_or cs (t * width + get_or chosen t 0) 0)

unfoldable pub take_before : (ℕ → Bool) → ℕ → ℕ → List ℕ → ℕ → List ℕ → List ℕ
take_before before width u chosen zero cs = cs
take_before before width u chosen (suc t) cs =
    rows_if (before t) (take_own width u chosen t (take_before before width u chosen t cs)) (take_before before width u chosen t cs)

-- what the lists must have room for
pub record RoomToTake (width u : ℕ) (cs chosen : List ℕ) : Type 0 where
  pub narrow : width ≤ 1024
  pub few : u < 1024
  pub row : u * width + width ≤ length cs
  pub chosen_room : u ≤ length chosen
  pub fits : (t : ℕ) → t < u → get_or chosen t 0 < width

-- Row u before it begins: cleared, and taken from the order. Its hint, 1,024, says to look for a chain from chain 0 on.
unfoldable pub ready_row : (ℕ → ℕ → Bool) → ℕ → ℕ → Rows → Rows
ready_row before width u s = record {
  clocks = take_before (λ t. before t u) width u s.chosen u (clear_row width u s.clocks);
  sizes = s.sizes;
  chosen = set s.chosen u 1024;
  chains = s.chains;
}

-- row u made; and so the first rows
unfoldable pub make_row : (ℕ → ℕ → Bool) → ℕ → ℕ → Rows → Rows
make_row before width u s = begin_row width u (ready_row before width u s)

unfoldable pub make_rows : (ℕ → ℕ → Bool) → ℕ → ℕ → Rows → Rows
make_rows before width zero s = s
make_rows before width (suc u) s = make_row before width u (make_rows before width u s)

-- what making a row must have room for
pub record RoomToMake (before : ℕ → ℕ → Bool) (width u : ℕ) (s : Rows) : Type 0 where
  pub to_take : RoomToTake width u s.clocks s.chosen
  pub inside : u < length s.chosen
  pub to_begin : RoomToBegin width u (ready_row before width u s)

-- A table tells the order by links l of the first m event actions.
pub record Tells (before : ℕ → ℕ → Bool) (m : ℕ) (l : Links) : Type 0 where
  pub forward : Forward l
  pub tests : (p u : ℕ) → p < u → u < m → before p u ≡ leq l p u

-- what making all rows asks for
pub record ReadyToMake (before : ℕ → ℕ → Bool) (m width : ℕ) (clocks sizes chosen : List ℕ) : Type 0 where
  pub links : Links
  pub tells : Tells before m links
  pub narrow : width ≤ 1024
  pub few : m ≤ 1024
  pub room : m * width ≤ length clocks
  pub sizes_clear : sizes ≡ no_chains
  pub chosen_clear : chosen ≡ no_chains

-- and what it gives: all rows, or the row that needs more chains than the width
pub record MakesRows (l : Links) (m width : ℕ) (clocks clocks' chosen : List ℕ) (rows chains : ℕ) : Type 0 where
  pub rows_are : rows ≡ needs (leq l) width m
  pub clocks_are : rows ≡ m → clocks' ≡ clocks_of l width m ++ drop (m * width) clocks
  pub chosen_are : rows ≡ m → chosen ≡ table m (chain_of l) ++ replicate (1024 - m) 0
  pub chains_are : rows ≡ m → chains ≡ used (leq l) m
  pub rest : drop (m * width) clocks' ≡ drop (m * width) clocks
