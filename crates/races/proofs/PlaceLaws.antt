-- Where raising stands in the clocks: at the start, from row to row, and at a second access.
-- Assumes nothing.
use Prim.Native.Nat.{ℕ, zero, suc, ◌+◌, ◌≤◌, ◌<◌, max}
use mathlib.Core.Path.{◌≡◌, refl, sym, ap, ◌∙◌}
use mathlib.Core.Bool.{Bool, true, false}
use mathlib.Core.Logic.{◌⊎◌}
use mathlib.Core.List.{List, ◌++◌}
use native.Mathlib.Omega.{arith}
use native.Mathlib.Numerals.{add-one}
use lib.ListN.{length, get_or}
use Rattle.records.specs.declared.Record.{Record}
use Rattle.records.specs.Kinds.{has_send}
use Rattle.trace.specs.Reading.{Acceptable}
use Rattle.ranks.specs.declared.Ordering.TheVariants.{Begin}
use Rattle.order.specs.Links.{leq}
use Rattle.order.specs.Chains.{used}
use Rattle.order.specs.Clocks.{chain_of, entry, flat, clocks_of}
use Rattle.order.specs.Fill.{events_in, row_past_width, chain_table, trace_clocks}
use Rattle.order.specs.loops.Standing.{begins}
use Rattle.order.specs.loops.RecordLinks.{ordering_at}
use Rattle.order.specs.HappensBefore.{trace_links}
use Rattle.order.specs.loops.Walk.{walk_from}
use Rattle.order.proofs.ChainLaws.{used-zero, used-suc, used-mono, chain-le-used, chain-below, needs-none}
use Rattle.order.proofs.ScheduleLaws.{begins-suc, begins-mono, begin-next}
use Rattle.order.proofs.RecordOrder.{ops-begins, ops-ordered, first-begins}
use Rattle.order.proofs.TraceOrder.{forward-links}
use Rattle.order.proofs.TableLaws.{chain-at}
use Rattle.order.proofs.WalkLaws.{Along, Arrives}
use Rattle.races.specs.loops.FilledClocks.{FilledClocks}
use Rattle.races.specs.loops.Leading.{lead_in}
use Rattle.races.specs.loops.Raising.{Place, by_records, by_clocks, onward_by, onward, goes}
use Rattle.races.proofs.CoverNumbers.{events}
use Rattle.races.proofs.RaisedRows.{final, final-short}
use Rattle.races.proofs.EntryOrder.{edge, list-edges}
use Rattle.races.proofs.StandLaws.{Standing, NoEdge, stand-leave, stand-arrive, stand-ready, stand-first}
use Rattle.races.proofs.TraceWalk.{trace-walk}
use Rattle.races.proofs.LeadLaws.{Ready, made-ready}
use Rattle.races.proofs.LeadTrace.{trace-closed}

pub events-in : (tr : List Record) → events_in tr ≡ events tr
unfolding events_in
events-in tr = refl

module _ {tr : List Record} (a : Acceptable tr) where
  pub events_are : begins (ordering_at tr) (length tr) ≡ events tr
  events_are = ops-begins a (length tr) (omega arith)

  -- the chain of a row, by the list, has its place in every row
  pub chain-place : (chosen : List ℕ) (w : ℕ) → chosen ≡ chain_table tr → row_past_width tr w ≡ events_in tr → (t : ℕ) → t < events_in tr → (get_or chosen t 0 ≡ chain_of (trace_links tr) t) × (chain_of (trace_links tr) t < w)
  unfolding row_past_width
  chain-place chosen w e s t h = (ap (λ (o : List ℕ). get_or o t 0) e ∙ chain-at a t h, omega (arith, chain-below (leq (trace_links tr)) t (events_in tr) h, (needs-none (leq (trace_links tr)) w (events_in tr)).0 s))

module _ {tr : List Record} {ranks chosen : List ℕ} {w : ℕ} {clocks₀ : List ℕ} (f : FilledClocks tr ranks chosen w clocks₀) (short : Bool) where
  -- the rows in the clocks, with the edges before y merged
  pub record Raises (y : ℕ) (s : Place) : Type 0 where
    pub rows : ℕ → ℕ → ℕ
    pub standing : Standing tr (edge tr short) s.position s.row y rows
    pub clocks_are : s.clocks ≡ flat w (begins (ordering_at tr) (length tr)) rows ++ f.rest
    pub chains_are : s.chains ≡ used (leq (trace_links tr)) (suc s.row)

  pub raises-start : 0 < length tr → Raises 0 (record { row = 0; position = 0; chains = 1; clocks = clocks₀ })
  unfolding trace_clocks clocks_of events_in
  raises-start h =
      let a = f.acceptable in
      let b = first-begins a h in
      let n : 0 < events tr = omega (arith, events_are a, begins-suc (ordering_at tr) 0 (Begin 0) b, begins-mono (ordering_at tr) 1 (length tr) h) in
      record {
        rows = entry (trace_links tr);
        standing = stand-first a (edge tr short) (list-edges tr short a) 0 h n b (λ d k. omega arith);
        clocks_are = f.clocks_are ∙ ap (λ (m : ℕ). flat w m (entry (trace_links tr)) ++ f.rest) (sym (events_are a));
        chains_are = let c = chain-le-used (leq (trace_links tr)) 0 in omega (arith, used-zero (leq (trace_links tr)), used-suc (leq (trace_links tr)) 0);
      }

  -- on to the next row
  module _ {y : ℕ} (s : Place) (r : Raises y s) (none : NoEdge f.acceptable (edge tr short) (list-edges tr short f.acceptable) s.row y) (h : suc s.row < events tr) where
    abbrev a : Acceptable tr
    a = f.acceptable

    abbrev t : ℕ
    t = s.row

    abbrev i : ℕ
    i = s.position

    z : Standing tr (edge tr short) s.position s.row y r.rows
    z = r.standing

    leave : (v c : ℕ) → v < suc s.row → r.rows v c ≡ final tr v c
    leave = stand-leave a (edge tr short) (list-edges tr short a) z none

    short-rows : (p c : ℕ) → p < suc s.row → (s.chains ≤ c) ⊎ (p < c) → final tr p c ≡ 0
    short-rows p c k o = final-short tr p c s.chains (omega (arith, r.chains_are, used-mono (leq (trace_links tr)) (suc p) (suc t) k)) o

    more : max s.chains (get_or chosen (s.row + 1) 0 + 1) ≡ used (leq (trace_links tr)) (suc (s.row + 1))
    more =
        let c : get_or chosen (s.row + 1) 0 ≡ chain_of (trace_links tr) (s.row + 1) = (chain-place a chosen w f.chosen_are f.enough (s.row + 1) (omega (arith, events-in tr))).0 in
        let k = r.chains_are in
        let u = used-suc (leq (trace_links tr)) (s.row + 1) in
        let e : s.row + 1 ≡ suc s.row = add-one s.row in
        let o = ap (used (leq (trace_links tr))) e in
        omega arith

    -- by the records
    module _ (n : has_send tr ≡ false) where
      b : begins (ordering_at tr) (suc s.position) ≡ suc s.row
      b = begins-suc (ordering_at tr) i (Begin t) (z.begins_it n) ∙ ap suc (sym (begin-next (ordering_at tr) (length tr) (ops-ordered a) i t z.inside (z.begins_it n)))

      along : Along (ordering_at tr) (entry (trace_links tr)) (final tr) (suc s.position) r.rows
      along = record {
        done = λ u c k. leave u c (omega (arith, b));
        coming = λ u c k. z.coming n u c (omega (arith, b));
      }

      v : Arrives (ordering_at tr) (length tr) (entry (trace_links tr)) (final tr) w f.rest (suc s.position) (walk_from tr ranks w s.chains (s.position + 1) s.clocks)
      v = trace-walk a ranks f.ranks_are (entry (trace_links tr)) (final tr) w s.chains f.rest f.narrow i r.rows s.clocks z.inside r.clocks_are along (λ p c k q o. short-rows p c (omega (arith, b)) o)

      abbrev j : ℕ
      j = (walk_from tr ranks w s.chains (s.position + 1) s.clocks).position

      begun : begins (ordering_at tr) (walk_from tr ranks w s.chains (s.position + 1) s.clocks).position ≡ suc s.row
      begun = v.none_begun ∙ b

      inside : (walk_from tr ranks w s.chains (s.position + 1) s.clocks).position < length tr
      inside =
          let g : j ≡ length tr → ⊥ = λ (e : j ≡ length tr). omega (arith, events_are a, begun, ap (begins (ordering_at tr)) e) in
          omega (arith, g, v.inside)

      begins-next : ordering_at tr (walk_from tr ranks w s.chains (s.position + 1) s.clocks).position ≡ Begin (suc s.row)
      begins-next = v.at-begin inside ∙ ap Begin b

      by-records : Raises y (by_records chosen w tr ranks s)
      unfolding by_records
      by-records = record {
        rows = v.rows;
        standing = rw (add-one t) (stand-arrive a (edge tr short) (list-edges tr short a) n j (suc t) y v.rows inside begins-next h (λ d k. omega (arith, z.seen d k)) (λ x c k. v.along.done x c (omega (arith, begun))) (λ x c k. v.along.coming x c (omega (arith, begun))));
        clocks_are = v.clocks_are;
        chains_are = more;
      }

    -- by the clocks alone
    module _ (n : has_send tr ≡ true) where
      made : Ready (trace_links tr) (forward-links f.acceptable) (s.row + 1) (final tr) (trace-closed f.acceptable (s.row + 1) (omega arith)) chosen w s.chains (begins (ordering_at tr) (length tr)) f.rest f.narrow (omega (arith, events_are f.acceptable)) (λ p k. chain-place f.acceptable chosen w f.chosen_are f.enough p (omega (arith, events-in tr))) (λ p c k. short-rows p c (omega arith)) r.rows (λ p c k. leave p c (omega arith)) (λ c. z.filled n (s.row + 1) c (omega arith)) s.clocks r.clocks_are (lead_in chosen w s.chains (s.row + 1) s.clocks)
      made = made-ready _ _ _ _ _ _ _ _ _ _ _ _ _ _ _ _ _ _ _

      by-clocks : Raises y (by_clocks chosen w s)
      unfolding by_clocks
      by-clocks = record {
        rows = made.now;
        standing = stand-ready a (edge tr short) (list-edges tr short a) n i (s.row + 1) y made.now z.inside (omega arith) (λ d k. omega (arith, z.seen d k)) (λ x c k. made.others x c (omega arith) ∙ leave x c (omega arith)) made.own (λ x c k. made.others x c (omega arith) ∙ z.filled n x c (omega arith));
        clocks_are = made.clocks_are;
        chains_are = more;
      }

    pub raises-onward : Raises y (onward tr ranks chosen w s)
    raises-onward = go (has_send tr) refl
      where
        go : (b : Bool) → has_send tr ≡ b → Raises y (onward_by chosen w b tr ranks s)
        go true n = by-clocks n
        go false n = by-records n

    pub onward-row : (onward tr ranks chosen w s).row ≡ s.row + 1
    unfolding by_records by_clocks
    onward-row = go (has_send tr)
      where
        go : (b : Bool) → (onward_by chosen w b tr ranks s).row ≡ s.row + 1
        go true = refl
        go false = refl

  -- and on, over rows that no edge leads into any more
  pub raises-goes : {y : ℕ} (k : ℕ) (s : Place) → Raises y s → ((v : ℕ) → s.row ≤ v → v < s.row + k → NoEdge f.acceptable (edge tr short) (list-edges tr short f.acceptable) v y) → s.row + k < events tr → Raises y (goes (onward tr ranks chosen w) k s) × ((goes (onward tr ranks chosen w) k s).row ≡ s.row + k)
  unfolding goes
  raises-goes zero s r n h = (r, omega arith)
  raises-goes (suc k) s r n h =
      let none = n s.row (omega arith) (omega arith) in
      let o = onward-row s r none (omega arith) in
      let (p, q) = raises-goes k (onward tr ranks chosen w s) (raises-onward s r none (omega arith)) (λ v x y. n v (omega (arith, o)) (omega (arith, o))) (omega (arith, o)) in
      (p, q ∙ omega (arith, o))
