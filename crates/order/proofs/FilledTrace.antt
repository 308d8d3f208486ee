-- An accepted trace, and the clocks that filling left. Assumes nothing.
use Prim.Native.Nat.{ℕ, ◌*◌}
use mathlib.Core.Path.{◌≡◌, sym, ◌∙◌}
use mathlib.Core.Bool.{true}
use mathlib.Core.List.{List, ◌++◌}
use borrow.Author.Tests.{eqb-true}
use lib.Dec.{eqb}
use lib.ListN.{length, drop}
use Rattle.records.specs.declared.Trace.{Trace}
use Rattle.trace.specs.Reply.{Reply, gives, demand, unless}
use Rattle.trace.specs.Reading.{Acceptable, records_in, Accepts}
use Rattle.trace.proofs.ReplyLaws.{same-given}
use Rattle.trace.proofs.Accepted.{accepts}
use Rattle.clocks.specs.Rows.{space_for}
use Rattle.order.specs.Fill.{events_in, row_past_width, trace_clocks}
use Rattle.order.specs.Lent.{enough_chains, clocks_filled, clocks_after, fill_ready, fill_reply}
use Rattle.order.proofs.LentLaws.{fits, filling}

-- the number of event actions
pub events-of : (b : List ℕ) (t : Trace) → Accepts b t → t.events ≡ events_in (records_in b t)
unfolding events_in
events-of b t e = let p = accepts b t e in rw p.counts (sym p.begun)

-- the clocks of a call that goes on with the trace, where there are chains enough
pub clocks-whole : (b : List ℕ) {ready : Reply Trace} {t : Trace} → gives t ≡ ready → (w : ℕ) (cs : List ℕ) → eqb (row_past_width (records_in b t) w) t.events ≡ true
    → clocks_after b ready w cs ≡ trace_clocks (records_in b t) w ++ drop (t.events * w) cs
unfolding clocks_after clocks_filled enough_chains demand unless
clocks-whole b e w cs h = rw (← e, h)

pub record FilledTrace (b : List ℕ) (t : Trace) (w : ℕ) (cs : List ℕ) : Type 0 where
  pub acceptable : Acceptable (records_in b t)
  pub events_are : t.events ≡ events_in (records_in b t)
  pub had_space : space_for w t.events (length cs) ≡ true
  pub had_chains : row_past_width (records_in b t) w ≡ t.events
  pub clocks_are : clocks_after b (fill_ready b w (length cs)) w cs ≡ trace_clocks (records_in b t) w ++ drop (t.events * w) cs

pub filled-trace : (b : List ℕ) (t : Trace) (w : ℕ) (cs : List ℕ) (k : ℕ) → Accepts b t → gives k ≡ fill_reply b w (length cs) → FilledTrace b t w cs
unfolding fill_reply fill_ready
filled-trace b t w cs k e f =
    let g = filling b _ w _ k f in
    let h = fits _ w (length cs) _ g.trace g.ready_is in
    let z : t ≡ g.trace = same-given (e ∙ sym h.found-is) in
    rw z (record {
      acceptable = (accepts b g.trace h.found-is).acceptable;
      events_are = events-of b g.trace h.found-is;
      had_space = h.has-space;
      had_chains = eqb-true _ _ g.enough;
      clocks_are = clocks-whole b g.ready_is w cs g.enough;
    })
