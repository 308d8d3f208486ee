-- What the pass, over the records or from the table, asks for and what it gives. Assumes nothing.
use Rattle.std.specs.Prelude.{ℕ, ◌*◌, ◌≤◌, ◌<◌, ◌≡◌, ◌≢◌, List, ◌++◌, length, drop}
use Rattle.records.specs.declared.Record.{Record}
use Rattle.trace.specs.Reading.{Acceptable}
use Rattle.ranks.specs.Ranks.{ranks_of}
use Rattle.order.specs.Fill.{events_in, begin_position, row_past_width, chains_used, chain_table, trace_clocks, no_chains}

pub record Ready (tr : List Record) (w : ℕ) (ranks clocks sizes chosen : List ℕ) : Type 0 where
  pub acceptable : Acceptable tr
  pub ranks_are : ranks ≡ ranks_of tr
  pub narrow : w ≤ 1024
  pub room : events_in tr * w ≤ length clocks
  pub sizes_clear : sizes ≡ no_chains
  pub chosen_clear : chosen ≡ no_chains

-- the rows are filled
pub record Whole (tr : List Record) (w : ℕ) (clocks clocks' chosen : List ℕ) (chains position : ℕ) : Type 0 where
  pub clocks_are : clocks' ≡ trace_clocks tr w ++ drop (events_in tr * w) clocks
  pub chosen_are : chosen ≡ chain_table tr
  pub chains_are : chains ≡ chains_used tr
  pub to_end : position ≡ length tr

-- or the pass stopped at the begin that needs one chain more
pub record Short (tr : List Record) (w position : ℕ) : Type 0 where
  pub place : position ≡ begin_position tr (row_past_width tr w)
  pub inside : position < length tr

pub record Passes (tr : List Record) (w : ℕ) (clocks clocks' chosen : List ℕ) (chains position : ℕ) : Type 0 where
  pub whole : row_past_width tr w ≡ events_in tr → Whole tr w clocks clocks' chosen chains position
  pub short : row_past_width tr w ≢ events_in tr → Short tr w position
  pub rest : drop (events_in tr * w) clocks' ≡ drop (events_in tr * w) clocks
