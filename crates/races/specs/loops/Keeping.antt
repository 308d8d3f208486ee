-- What happens before what, kept as a table of bits while rows are raised, and the rows made from it again. Assumes nothing.
use Rattle.std.specs.Prelude.{ℕ, ◌*◌, ◌≤◌, ◌<◌, ◌≡◌, Bool, false, List, length, get_or}
use Rattle.bits.specs.Table.{bit_of}
use Rattle.bits.specs.Laws.{Proper}
use Rattle.clocks.specs.Rows.{compare_in}
use Rattle.order.specs.Links.{Links}
use Rattle.order.specs.Clocks.{chain_of}
use Rattle.order.specs.loops.FromTable.{Tells}
use Rattle.races.specs.loops.FilledClocks.{RowsIn}

-- the table has the rows before row u, and of row u the first k bits, as the clocks tell them
pub record Kept (chosen : List ℕ) (width : ℕ) (clocks : List ℕ) (u k : ℕ) (table : List ℕ) : Type 0 where
  pub proper : Proper table
  pub rows : (t v : ℕ) → t < v → v < u → bit_of table t v ≡ compare_in clocks width (get_or chosen t 0) t v
  pub row : (t : ℕ) → t < k → bit_of table t u ≡ compare_in clocks width (get_or chosen t 0) t u
  pub rest : (t : ℕ) → k ≤ t → bit_of table t u ≡ false
  pub none : (t v : ℕ) → u < v → bit_of table t v ≡ false

-- that many rows stand in the clocks
pub record MayKeep (chosen : List ℕ) (events width : ℕ) (clocks : List ℕ) : Type 0 where
  pub few : events ≤ 1024
  pub rows : (t u : ℕ) → t < events → u < events → RowsIn chosen width clocks t u

-- the table tells the order by some links, and the chain of each row is known
pub record Restorable (before : ℕ → ℕ → Bool) (events width : ℕ) (chosen clocks : List ℕ) : Type 0 where
  pub links : Links
  pub tells : Tells before events links
  pub narrow : width ≤ 1024
  pub few : events ≤ 1024
  pub room : events * width ≤ length clocks
  pub known : events ≤ length chosen
  pub chains : (t : ℕ) → t < events → (get_or chosen t 0 ≡ chain_of links t) × (chain_of links t < width)
