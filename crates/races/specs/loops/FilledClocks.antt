-- What is at hand once the clocks of an accepted trace are filled. Assumes nothing.
use Rattle.std.specs.Prelude.{ℕ, ◌+◌, ◌*◌, ◌≤◌, ◌<◌, ◌≡◌, List, ◌++◌, length, get_or, drop, replicate}
use Rattle.records.specs.declared.Record.{Record}
use Rattle.records.specs.Records.{past, begins}
use Rattle.trace.specs.Reading.{Acceptable}
use Rattle.ranks.specs.Ranks.{ranks_of}
use Rattle.order.specs.Fill.{events_in, row_past_width, chain_table, trace_clocks}

-- Ranks by event number, the chain of each row, and clocks at a width that suffices, with anything after them.
pub record FilledClocks (tr : List Record) (ranks chosen : List ℕ) (width : ℕ) (clocks : List ℕ) : Type 0 where
  pub acceptable : Acceptable tr
  pub ranks_are : ranks ≡ ranks_of tr
  pub chosen_are : chosen ≡ chain_table tr
  pub narrow : width ≤ 1024
  pub enough : row_past_width tr width ≡ events_in tr
  pub rest : List ℕ
  pub clocks_are : clocks ≡ trace_clocks tr width ++ rest

-- rows t and u stand in the clocks, and the chain of row t is known
pub record RowsIn (chosen : List ℕ) (width : ℕ) (clocks : List ℕ) (t u : ℕ) : Type 0 where
  pub known : t < length chosen
  pub own : t * width + get_or chosen t 0 < length clocks
  pub other : u * width + get_or chosen t 0 < length clocks

-- and the chain of row u is known too
pub record BothIn (chosen : List ℕ) (width : ℕ) (clocks : List ℕ) (t u : ℕ) : Type 0 where
  pub first : RowsIn chosen width clocks t u
  pub second : RowsIn chosen width clocks u t

-- the chain of row u, and its own entry there
pub record OwnIs (chosen : List ℕ) (width : ℕ) (clocks : List ℕ) (u chain entry : ℕ) : Type 0 where
  pub chain_is : chain ≡ get_or chosen u 0
  pub entry-is : entry ≡ get_or clocks (u * width + chain) 0

-- one row for each event action
abbrev pub rows : List Record → ℕ
rows tr = begins (past tr (length tr))

-- the work space is 0 over one byte for each event action
pub record Clear (tr : List Record) (events : ℕ) (work : List ℕ) : Type 0 where
  pub events_are : events ≡ rows tr
  pub work_room : rows tr ≤ length work
  pub zeros : work ≡ replicate (rows tr) 0 ++ drop (rows tr) work
