-- Filling for an accepted trace's records. Assumes nothing.
use Rattle.std.specs.Prelude.{ℕ, ◌≡◌, List, Result}
use Rattle.records.specs.declared.Record.{Record}
use Rattle.ranks.specs.Ranks.{ranks_of}
use Rattle.trace.specs.declared.Refusal.{Refusal}
use Rattle.trace.specs.Reply.{gives}
use Rattle.order.specs.Fill.{chains_used}
use Rattle.order.specs.Lent.{enough_chains, clocks_filled, chains_filled}
use Rattle.order.specs.Paper.{fill_paper}

-- the same of an accepted trace's records that the clocks have space for, the chain of each row, and the ranks of all events
pub record FillsTrace (tr : List Record) (events width : ℕ) (clocks clocks' : List ℕ) (r : Result ℕ Refusal) (chosen ranks : List ℕ) : Type 0 where
  pub answer : fill_paper r ≡ enough_chains tr events width (gives (chains_used tr))
  pub clocks-after : clocks' ≡ clocks_filled tr events width clocks
  pub chains_after : chosen ≡ chains_filled tr events width
  pub ranks_after : ranks ≡ ranks_of tr
