-- Event actions, chains and clock rows of a trace. Assumes nothing.
use Rattle.std.specs.Prelude.{ℕ, ◌-◌, ◌&&◌, List, ◌++◌, eqb, length, replicate}
use Rattle.slices.specs.Slices.{zeros}
use Rattle.records.specs.declared.Record.{Record}
use Rattle.records.specs.Records.{at, past, is_begin, begins}
use Rattle.order.specs.Links.{leq}
use Rattle.order.specs.Chains.{first, used, needs}
use Rattle.order.specs.Clocks.{table, chain_of, clocks_of}
use Rattle.order.specs.HappensBefore.{trace_links}

module _ (tr : List Record) where
  -- the number of event actions, "the number of begins"
  unfoldable pub events_in : ℕ
  events_in = begins (past tr (length tr))

  -- the position of the begin of row u
  unfoldable pub begin_position : ℕ → ℕ
  begin_position u = first (λ i. is_begin (at tr i) && eqb (begins (past tr i)) u) (length tr)

  -- the row of the begin that needs more chains than the width, or the number of event actions
  unfoldable pub row_past_width : ℕ → ℕ
  row_past_width width = needs (leq (trace_links tr)) width events_in

  -- "chains used"
  unfoldable pub chains_used : ℕ
  chains_used = used (leq (trace_links tr)) events_in

  -- the chain of each row, for 1,024 rows; 0 past the last
  unfoldable pub chain_table : List ℕ
  chain_table = table events_in (chain_of (trace_links tr)) ++ replicate (1024 - events_in) 0

  -- "one row after another in begin order"
  unfoldable pub trace_clocks : ℕ → List ℕ
  trace_clocks width = clocks_of (trace_links tr) width events_in

-- a table of no chains, for 1,024 rows
abbrev pub no_chains : List ℕ
no_chains = zeros 1024
