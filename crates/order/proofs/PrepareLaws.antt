-- How preparing ends, from the reading within the spaces and filling; and back from its promise.
-- Assumes nothing.
use Prim.Native.Nat.{ℕ, ◌*◌, ◌≤◌}
use mathlib.Core.Path.{◌≡◌, refl, sym, ap, ◌∙◌, subst}
use mathlib.Core.Bool.{true}
use mathlib.Core.List.{List, ◌++◌}
use native.Mathlib.Omega.{arith}
use borrow.Author.Tests.{le-leb}
use lib.Dec.{eqb}
use lib.ListN.{length, drop}
use Rattle.records.specs.declared.Record.{Record}
use Rattle.records.specs.declared.Trace.{Trace}
use Rattle.records.specs.Bytes.{part}
use Rattle.trace.specs.Reply.{Reply, refused, gives, demand, then, unless}
use Rattle.trace.specs.Reading.{records_in, read_reply, Accepts}
use Rattle.trace.proofs.ReplyLaws.{same-given, unless-given}
use Rattle.ranks.specs.Ranks.{ranks_of}
use Rattle.clocks.specs.Rows.{space_for}
use Rattle.std.proofs.Common.{Result}
use Rattle.trace.specs.declared.Refusal.{Refusal}
use Rattle.order.specs.Fill.{row_past_width, chains_used, chain_table, trace_clocks, no_chains}
use Rattle.order.specs.Lent.{asking, work_for, no_work, spaced, enough_chains, on_clocks, clocks_after, chains_filled, fill_ready, fill_reply}
use Rattle.order.specs.Prepare.{asked, read_within, within, no_trace}
use Rattle.order.specs.Paper.{fill_paper, Fills, Prepares}
use Rattle.order.specs.loops.FillsTrace.{FillsTrace}
use Rattle.order.proofs.EntryLaws.{read-acceptable, read-events}
use Rattle.order.proofs.TableLaws.{events-few}
use Rattle.order.proofs.LentLaws.{asks, none-asking, fits, same-work, filling}
use Rattle.order.proofs.FilledTrace.{clocks-whole}

module _ (b : List ℕ) (ready : Reply Trace) (w : ℕ) (cs ranks : List ℕ) where
  -- refused by the reader, by 11, by 21 or by 22
  pub stopped : (chosen : List ℕ) (n p : ℕ) (r : Result ℕ Refusal) (t : Trace) → fill_paper r ≡ refused n p → t ≡ no_trace → chosen ≡ no_chains → ready ≡ refused n p
      → Prepares b ready w cs cs chosen ranks ranks r t
  unfolding on_clocks then unless clocks_after
  stopped chosen n p r t a i o e = record { answer = rw e a; trace_is = rw e i; clocks-after = rw e refl; chains_after = rw e o; ranks_after = rw e refl }

  -- 23, or the clocks are filled
  pub passed : (t : Trace) → gives t ≡ ready → (cs' chosen ranks' : List ℕ) (r : Result ℕ Refusal) (rs : List Record) → rs ≡ records_in b t → FillsTrace rs t.events w cs cs' r chosen ranks'
      → Prepares b ready w cs cs' chosen ranks ranks' r t
  unfolding on_clocks then unless clocks_after
  passed t e cs' chosen ranks' r rs q g =
      let f = subst (λ (x : List Record). FillsTrace x t.events w cs cs' r chosen ranks') q g in
      record { answer = rw (← e) f.answer; trace_is = rw (← e) refl; clocks-after = rw (← e) f.clocks-after; chains_after = rw (← e) f.chains_after; ranks_after = rw (← e) f.ranks_after }

-- a reading at hand, within the spaces
pub within-reading : (b : List ℕ) (found : Reply Trace) (lo hi w space room : ℕ) → found ≡ read_reply b
    → within found lo hi w space room ≡ read_within b lo hi w space room
unfolding read_within within asking
within-reading b found lo hi w space room e = rw e

-- a reading within the spaces that is accepted
module _ (b : List ℕ) (lo hi w space room : ℕ) (t : Trace) where
  pub record Fitting : Type 0 where
    pub read : Accepts b t
    pub has-space : space_for w t.events space ≡ true

  pub fitting : gives t ≡ read_within b lo hi w space room → Fitting
  unfolding read_within
  fitting h =
      let f = fits _ w space _ t h in
      record { read = (asks b _ t f.found-is).accepted; has-space = f.has-space }

-- from 1 to 0 no record is asked about
pub none-asked : (b : List ℕ) (w space room : ℕ) → read_within b 1 0 w space room ≡ spaced (read_reply b) w space (work_for room)
unfolding read_within asked
none-asked b w space room = ap (λ (x : Reply Trace). spaced x w space (work_for room)) (none-asking b _ (λ t. le-leb 0 t.records (omega arith)))

-- so with room for 1,024 event actions preparing is filling
pub fills : (b : List ℕ) (w : ℕ) (cs cs' chosen ranks ranks' : List ℕ) (r : Result ℕ Refusal) (t : Trace) → Prepares b (read_within b 1 0 w (length cs) 1024) w cs cs' chosen ranks ranks' r t → Fills b w cs cs' r
unfolding fill_reply
fills b w cs cs' chosen ranks ranks' r t p = record { answer = rw (← same) p.answer; clocks-after = rw (← same) p.clocks-after }
  where
    few : (x : Trace) → Accepts b x → x.events ≤ 1024
    few x e =
        let a = read-acceptable b x e (part b x.start x.records) refl in
        omega (arith, read-events b x e (part b x.start x.records) refl, events-few a)

    same : read_within b 1 0 w (length cs) 1024 ≡ fill_ready b w (length cs)
    same = none-asked b w (length cs) 1024 ∙ unfold fill_ready in same-work (read_reply b) w (length cs) (work_for 1024) no_work (λ x e. le-leb x.events 1024 (few x e))

-- the clocks are filled
pub record Prepared (b : List ℕ) (ready : Reply Trace) (w : ℕ) (cs cs' chosen ranks' : List ℕ) (t : Trace) (k : ℕ) : Type 0 where
  pub ready_is : gives t ≡ ready
  pub enough : eqb (row_past_width (records_in b t) w) t.events ≡ true
  pub chains_are : k ≡ chains_used (records_in b t)
  pub clocks_are : cs' ≡ trace_clocks (records_in b t) w ++ drop (t.events * w) cs
  pub chosen_are : chosen ≡ chain_table (records_in b t)
  pub ranks_are : ranks' ≡ ranks_of (records_in b t)

-- what preparing says of a trace that a call goes on with, and of one that is refused
module _ {b : List ℕ} {ready : Reply Trace} {w : ℕ} {cs cs' chosen ranks ranks' : List ℕ} {r : Result ℕ Refusal} {t : Trace} (p : Prepares b ready w cs cs' chosen ranks ranks' r t) where
  pub none-ready : (n i : ℕ) → refused n i ≡ ready → t ≡ no_trace
  unfolding unless
  none-ready n i e = rw (← e) at p.trace_is

  pub is-ready : {x : Trace} → gives x ≡ ready → t ≡ x
  unfolding unless
  is-ready e = rw (← e) at p.trace_is

  pub prepared : (k : ℕ) → fill_paper r ≡ gives k → Prepared b ready w cs cs' chosen ranks' t k
  unfolding chains_filled enough_chains demand unless
  prepared k z =
      let g = filling b ready w _ k (sym z ∙ p.answer) in
      let e = is-ready g.ready_is in
      rw e (record {
        ready_is = g.ready_is;
        enough = g.enough;
        chains_are = same-given g.answers;
        clocks_are = p.clocks-after ∙ clocks-whole b g.ready_is w cs g.enough;
        chosen_are = p.chains_after ∙ unless-given g.ready_is _ _ ∙ rw g.enough refl;
        ranks_are = p.ranks_after ∙ unless-given g.ready_is _ _;
      })
