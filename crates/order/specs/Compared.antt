-- The comparison by which order is told, for events of a trace. Assumes nothing.
use Rattle.std.specs.Prelude.{ℕ, ◌-◌, Bool, List}
use Rattle.records.specs.declared.Record.{Record}
use Rattle.clocks.specs.Rows.{compare_in}
use Rattle.order.specs.Clocks.{chain_of}
use Rattle.order.specs.Rank.{rank}
use Rattle.order.specs.HappensBefore.{trace_links}

-- the comparison of the rows of events t and u
unfoldable pub compared : List Record → ℕ → List ℕ → ℕ → ℕ → Bool
compared tr width clocks t u = compare_in clocks width (chain_of (trace_links tr) (rank tr t - 1)) (rank tr t - 1) (rank tr u - 1)
