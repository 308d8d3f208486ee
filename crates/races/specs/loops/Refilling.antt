-- Filling the clock rows once more, where the chain of each row is known. Assumes nothing.
use Rattle.std.specs.Prelude.{ℕ, ◌*◌, ◌≤◌, ◌≡◌, false, List, length}
use Rattle.records.specs.declared.Record.{Record}
use Rattle.records.specs.Kinds.{has_send}
use Rattle.trace.specs.Reading.{Acceptable}
use Rattle.ranks.specs.Ranks.{ranks_of}
use Rattle.order.specs.Fill.{events_in, row_past_width, chain_table}

-- there is no send: records say all direct links
pub record Refillable (tr : List Record) (ranks chosen : List ℕ) (events width : ℕ) (clocks : List ℕ) : Type 0 where
  pub acceptable : Acceptable tr
  pub no_send : has_send tr ≡ false
  pub ranks_are : ranks ≡ ranks_of tr
  pub chosen_are : chosen ≡ chain_table tr
  pub events_are : events ≡ events_in tr
  pub narrow : width ≤ 1024
  pub enough : row_past_width tr width ≡ events_in tr
  pub room : events_in tr * width ≤ length clocks
