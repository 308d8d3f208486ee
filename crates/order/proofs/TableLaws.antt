-- The rows of an accepted trace, and the table of their chains.
-- Assumes nothing.
use Prim.Native.Nat.{ℕ, ◌-◌, ◌≤◌, ◌<◌}
use mathlib.Core.Path.{◌≡◌, ◌∙◌}
use mathlib.Core.List.{List}
use mathlib.Core.Logic.{◌≢◌}
use native.Mathlib.Omega.{arith}
use lib.ListN.{length, get_or, replicate, get_or-append}
use Rattle.records.specs.declared.Record.{Record}
use Rattle.trace.specs.Reading.{Acceptable}
use Rattle.trace.proofs.Events.{few-events}
use Rattle.order.specs.Clocks.{table, chain_of}
use Rattle.order.specs.Rank.{rank}
use Rattle.order.specs.HappensBefore.{trace_links}
use Rattle.order.specs.Fill.{events_in, chain_table}
use Rattle.order.proofs.RowLaws.{table-length, table_at}
use Rattle.order.proofs.Counted.{counted-passes}
use Rattle.order.proofs.TraceOrder.{begins-at, begins-rank, rank-begins}

module _ {tr : List Record} (a : Acceptable tr) where
  -- a rank is a row of the clocks, plus 1
  pub rank-row : (e : ℕ) → rank tr e ≢ 0 → rank tr e - 1 < events_in tr
  unfolding events_in
  rank-row e n =
      let b = rank-begins a e n in
      let r = begins-rank a b in
      let c = counted-passes tr b.position (length tr) b.inside (begins-at a b) in
      omega arith

  pub events-few : events_in tr ≤ 1024
  unfolding events_in
  events-few = few-events a

  pub chain-at : (r : ℕ) → r < events_in tr → get_or (chain_table tr) r 0 ≡ chain_of (trace_links tr) r
  unfolding chain_table
  chain-at r h =
      get_or-append (table (events_in tr) (chain_of (trace_links tr))) (replicate (1024 - events_in tr) 0) 0 r (omega (arith, table-length (events_in tr) (chain_of (trace_links tr))))
      ∙ table_at (events_in tr) (chain_of (trace_links tr)) r h
