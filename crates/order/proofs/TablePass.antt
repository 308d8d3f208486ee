-- The table of bits tells the order of an acceptable trace, and rows made from it are the trace's. Assumes nothing.
use Prim.Native.Nat.{ℕ, ◌-◌, ◌<◌}
use mathlib.Core.Path.{◌≡◌, sym, ap, ◌∙◌}
use mathlib.Core.List.{List}
use mathlib.Core.Logic.{◌≢◌}
use native.Mathlib.Omega.{arith}
use lib.ListN.{length}
use Rattle.records.specs.declared.Record.{Record}
use Rattle.trace.specs.Reading.{Acceptable}
use Rattle.ranks.specs.Ranks.{ranks_of}
use Rattle.bits.specs.Table.{bit_of}
use Rattle.precedence.specs.Before.{Begins}
use Rattle.links.specs.Rule.{rank_in}
use Rattle.links.specs.Fill.{fill_all}
use Rattle.order.specs.Links.{leq}
use Rattle.order.specs.HappensBefore.{trace_links}
use Rattle.order.specs.Fill.{events_in, begin_position, row_past_width, chains_used, chain_table, trace_clocks}
use Rattle.order.specs.loops.FromTable.{Tells, ReadyToMake, MakesRows}
use Rattle.order.specs.loops.PassEnds.{Ready, Short, Passes}
use Rattle.order.proofs.ChainLaws.{needs-first}
use Rattle.order.proofs.EventRows.{events, name_of}
use Rattle.order.proofs.LinkedTrace.{rows-table}
use Rattle.trace.proofs.Whole.{accepted-whole, accepted-decided, accepted-stops}
use Rattle.order.proofs.TraceOrder.{named, rank-begins, forward-links}
use Rattle.order.proofs.RankLaws.{ranks_are}
use Rattle.order.proofs.TableLaws.{events-few}
use Rattle.order.proofs.BeginLaws.{position-none, position-inside}

module _ {tr : List Record} (a : Acceptable tr) where
  row-begins : (r : ℕ) → r < events tr → Begins tr (length tr) (name_of tr r)
  row-begins r h = rank-begins a (name_of tr r) (λ z. omega (arith, named a r h))

  -- the rank of row r's event, by the list
  row-rank : (r : ℕ) → r < events tr → rank_in (ranks_of tr) (name_of tr r) - 1 ≡ r
  row-rank r h = omega (arith, ranks_are a (name_of tr r), named a r h)

  tells-rows : (p u : ℕ) → p < u → u < events tr → bit_of (fill_all tr).words p u ≡ leq (trace_links tr) p u
  tells-rows p u h k =
      let l : p < events tr = omega arith in
      rw (row-rank p l, row-rank u k) at ((accepted-decided a).tells (accepted-stops a) (name_of tr p) (name_of tr u) (row-begins p l) (row-begins u k))
      ∙ sym (rows-table (accepted-whole a) p u l k)

  pub table-tells : {words : List ℕ} → words ≡ (fill_all tr).words → Tells (bit_of words) (events_in tr) (trace_links tr)
  unfolding events_in
  table-tells e = record { forward = forward-links a; tests = λ p u h k. ap (λ (ws : List ℕ). bit_of ws p u) e ∙ tells-rows p u h k }

-- where a pass from the table came to
module _ (tr : List Record) (w rows position : ℕ) (e : rows ≡ row_past_width tr w) (p : position ≡ begin_position tr rows) where
  pub position-whole : row_past_width tr w ≡ events_in tr → position ≡ length tr
  position-whole q = p ∙ position-none tr rows (omega arith)

  pub position-short : row_past_width tr w ≢ events_in tr → Short tr w position
  unfolding row_past_width
  position-short n =
      let d : rows ≢ events_in tr = λ q. n (sym e ∙ q) in
      let k = (needs-first (leq (trace_links tr)) w (events_in tr)).to in
      let i = position-inside tr rows (omega (arith, d)) in
      record { place = p ∙ ap (begin_position tr) e; inside = omega arith }

-- the whole of a pass from the table
module _ (tr : List Record) (w events : ℕ) (ranks clocks sizes chosen : List ℕ) (r : Ready tr w ranks clocks sizes chosen) (ee : events ≡ events_in tr) where
  module _ (words : List ℕ) (t : Tells (bit_of words) (events_in tr) (trace_links tr)) where
    pub tells-events : Tells (bit_of words) events (trace_links tr)
    tells-events = rw ee t

    pub ready-to-make : ReadyToMake (bit_of words) events w clocks sizes chosen
    ready-to-make = record {
      links = trace_links tr;
      tells = tells-events;
      narrow = r.narrow;
      few = omega (arith, ee, events-few r.acceptable);
      room = rw ee r.room;
      sizes_clear = r.sizes_clear;
      chosen_clear = r.chosen_clear;
    }

  module _ (clocks' chosen' : List ℕ) (rows chains position : ℕ) (m : MakesRows (trace_links tr) events w clocks clocks' chosen' rows chains)
      (p : position ≡ begin_position tr rows) where
    made : MakesRows (trace_links tr) (events_in tr) w clocks clocks' chosen' rows chains
    made = rw ee at m

    rows_are : rows ≡ row_past_width tr w
    unfolding row_past_width
    rows_are = made.rows_are

    pub table-passes : Passes tr w clocks clocks' chosen' chains position
    unfolding trace_clocks chain_table chains_used
    table-passes = record {
      whole = λ e.
          let q : rows ≡ events_in tr = rows_are ∙ e in
          record {
            clocks_are = made.clocks_are q;
            chosen_are = made.chosen_are q;
            chains_are = made.chains_are q;
            to_end = position-whole tr w rows position rows_are p e;
          };
      short = position-short tr w rows position rows_are p;
      rest = made.rest;
    }
