-- Filling the clock rows once more, begin by begin.
-- Assumes nothing.
use Prim.Native.Nat.{ℕ, suc, ◌+◌, ◌*◌, ◌-◌, ◌≤◌, ◌<◌, max}
use mathlib.Core.Path.{◌≡◌, refl, sym, ap, ◌∙◌}
use mathlib.Core.Logic.{◌⊎◌, inl, inr}
use mathlib.Core.Bool.{false}
use mathlib.Core.List.{List, ◌++◌}
use native.Mathlib.Omega.{arith}
use native.Mathlib.Numerals.{add-one}
use lib.Dec.{eqb}
use lib.ListN.{length, get_or, drop, replicate, length-append, length-replicate}
use lib.Seq.{drop_at}
use Rattle.records.specs.declared.Record.{Record}
use Rattle.records.specs.Kinds.{has_send}
use Rattle.records.proofs.Positions.{lt-or-ge}
use Rattle.trace.specs.Reading.{Acceptable}
use Rattle.ranks.specs.declared.Ordering.TheVariants.{Begin}
use Rattle.clocks.specs.Rows.{clear_rows}
use Rattle.clocks.proofs.RowLaws.{clear-rows-fit, clear-rows-length}
use Rattle.order.specs.Links.{leq}
use Rattle.order.specs.Chains.{bit, used}
use Rattle.order.specs.Clocks.{chain_of, entry, largest, table, flat, clocks_of}
use Rattle.order.specs.Fill.{events_in, chain_table, trace_clocks}
use Rattle.order.specs.loops.Standing.{begins}
use Rattle.order.specs.loops.RecordLinks.{ordering_at}
use Rattle.order.specs.HappensBefore.{trace_links}
use Rattle.order.specs.loops.Walk.{Walked, walk_from}
use Rattle.order.proofs.SetLaws.{largest-le}
use Rattle.order.proofs.ChainLaws.{used-zero, used-suc, used-mono, used-le-self}
use Rattle.order.proofs.ClockLaws.{entry-law, entry_zero, entry-le}
use Rattle.order.proofs.RowLaws.{table-length, flat-length, flat-same, flat-zero, place, clocks-length}
use Rattle.order.specs.loops.Pass.{tick}
use Rattle.order.proofs.FlatLaws.{add_at, add-own, add-other, flat-read, ticked-row}
use Rattle.order.proofs.ScheduleLaws.{begins-zero, begins-suc, begins-mono}
use Rattle.order.proofs.RecordOrder.{records-make, ops-ordered, first-begins}
use Rattle.order.proofs.TraceOrder.{forward-links}
use Rattle.order.proofs.TableLaws.{events-few}
use Rattle.order.proofs.WalkLaws.{Along, along-start, along-begin, along-merged, Arrives}
use Rattle.races.specs.loops.FilledClocks.{FilledClocks}
use Rattle.races.specs.loops.Refilling.{Refillable}
use Rattle.races.proofs.PlaceLaws.{events-in, events_are, chain-place}
use Rattle.races.proofs.TraceWalk.{trace-walk}

-- no row before filling
abbrev none : ℕ → ℕ → ℕ
none u c = 0

-- the rows are cleared first
module _ {tr : List Record} {ranks chosen : List ℕ} {count w : ℕ} {clocks : List ℕ} (f : Refillable tr ranks chosen count w clocks) (cleared : List ℕ) (e : cleared ≡ clear_rows w count clocks) where
  zeros : cleared ≡ replicate (events_in tr * w) 0 ++ drop (events_in tr * w) clocks
  zeros = e ∙ ap (λ (k : ℕ). clear_rows w k clocks) f.events_are ∙ clear-rows-fit w clocks (events_in tr) f.narrow f.room

  pub cleared-rest : drop (events_in tr * w) cleared ≡ drop (events_in tr * w) clocks
  cleared-rest = ap (drop (events_in tr * w)) zeros ∙ drop_at (replicate (events_in tr * w) 0) (drop (events_in tr * w) clocks) (events_in tr * w) (length-replicate {A = ℕ} (events_in tr * w) 0)

  pub cleared-zeros : cleared ≡ replicate (events_in tr * w) 0 ++ drop (events_in tr * w) cleared
  cleared-zeros = zeros ∙ ap (λ (xs : List ℕ). replicate (events_in tr * w) 0 ++ xs) (sym cleared-rest)

  pub cleared-refillable : Refillable tr ranks chosen count w cleared
  cleared-refillable = record {
    acceptable = f.acceptable;
    no_send = f.no_send;
    ranks_are = f.ranks_are;
    chosen_are = f.chosen_are;
    events_are = f.events_are;
    narrow = f.narrow;
    enough = f.enough;
    room = omega (arith, f.room, ap length e, clear-rows-length w clocks count);
  }

module _ {tr : List Record} {ranks chosen : List ℕ} {count w : ℕ} {clocks₀ : List ℕ} (f : Refillable tr ranks chosen count w clocks₀) where
  -- the rows of those that have begun are filled, and row u begins next
  pub record Refilling (i u chains : ℕ) (clocks : List ℕ) : Type 0 where
    pub rows : ℕ → ℕ → ℕ
    pub clocks_are : clocks ≡ flat w (begins (ordering_at tr) (length tr)) rows ++ drop (events_in tr * w) clocks₀
    pub along : Along (ordering_at tr) none (entry (trace_links tr)) i rows
    pub within : i ≤ length tr
    pub begun : begins (ordering_at tr) i ≡ u
    pub at-begin : i < length tr → ordering_at tr i ≡ Begin u
    pub chains_are : chains ≡ used (leq (trace_links tr)) u

  many : begins (ordering_at tr) (length tr) ≡ events_in tr
  many = events_are f.acceptable ∙ sym (events-in tr)

  pub refilling-start : clocks₀ ≡ replicate (events_in tr * w) 0 ++ drop (events_in tr * w) clocks₀ → Refilling 0 0 0 clocks₀
  refilling-start e = record {
    rows = none;
    clocks_are = e ∙ ap (λ (k : ℕ). replicate (k * w) 0 ++ drop (events_in tr * w) clocks₀) (sym many) ∙ ap (λ (xs : List ℕ). xs ++ drop (events_in tr * w) clocks₀) (flat-zero w (begins (ordering_at tr) (length tr)));
    along = along-start (ordering_at tr) none (entry (trace_links tr)) none (λ u c. refl);
    within = omega arith;
    begun = begins-zero (ordering_at tr);
    at-begin = first-begins f.acceptable;
    chains_are = sym (used-zero (leq (trace_links tr)));
  }

  module _ {i u chains : ℕ} {clocks : List ℕ} (g : Refilling i u chains clocks) where
    pub refilling-end : length tr ≤ i → clocks ≡ trace_clocks tr w ++ drop (events_in tr * w) clocks₀
    unfolding trace_clocks clocks_of
    refilling-end h =
        let e : i ≡ length tr = omega (arith, g.within) in
        let n = ap (begins (ordering_at tr)) e in
        g.clocks_are ∙ ap (λ (xs : List ℕ). xs ++ drop (events_in tr * w) clocks₀) (flat-same w (begins (ordering_at tr) (length tr)) g.rows (entry (trace_links tr)) (λ v c k l. g.along.done v c (omega arith)) ∙ ap (λ (k : ℕ). flat w k (entry (trace_links tr))) many)

    size : length clocks ≡ begins (ordering_at tr) (length tr) * w + length (drop (events_in tr * w) clocks₀)
    size = ap length g.clocks_are ∙ length-append (flat w (begins (ordering_at tr) (length tr)) g.rows) (drop (events_in tr * w) clocks₀) ∙ ap (λ (k : ℕ). k + length (drop (events_in tr * w) clocks₀)) (flat-length w (begins (ordering_at tr) (length tr)) g.rows)

    module _ (h : i < length tr) where
      a : Acceptable tr
      a = f.acceptable

      next : begins (ordering_at tr) (suc i) ≡ suc u
      next = begins-suc (ordering_at tr) i (Begin u) (g.at-begin h) ∙ ap suc g.begun

      below : u < begins (ordering_at tr) (length tr)
      below = omega (arith, next, begins-mono (ordering_at tr) (suc i) (length tr) h)

      low : u < 1024
      low = omega (arith, below, many, events-few f.acceptable)

      known : (get_or chosen u 0 ≡ chain_of (trace_links tr) u) × (chain_of (trace_links tr) u < w)
      known = chain-place f.acceptable chosen w f.chosen_are f.enough u (omega (arith, below, many))

      -- row u has been merged with its direct predecessors' rows
      merged : (c : ℕ) → g.rows u c ≡ largest ((trace_links tr).preds u) (λ p. entry (trace_links tr) p c)
      merged c = along-merged (ordering_at tr) none (entry (trace_links tr)) (length tr) (ops-ordered f.acceptable) (trace_links tr) (records-make tr f.no_send) i u g.rows h (g.at-begin h) g.along c ∙ omega arith

      few : (c : ℕ) → g.rows u c ≤ u
      few c = omega (arith, merged c, largest-le ((trace_links tr).preds u) (λ p. entry (trace_links tr) p c) u (λ p k. omega (arith, forward-links f.acceptable u p k, entry-le (trace_links tr) (forward-links f.acceptable) p c)))

      pub chosen_room : u < length chosen
      unfolding chain_table
      chosen_room = omega (arith, low, ap length f.chosen_are, length-append (table (events_in tr) (chain_of (trace_links tr))) (replicate (1024 - events_in tr) 0), table-length (events_in tr) (chain_of (trace_links tr)), length-replicate {A = ℕ} (1024 - events_in tr) 0, events-few f.acceptable)

      module _ (c : ℕ) (c-is : c ≡ get_or chosen u 0) where
        own : c ≡ chain_of (trace_links tr) u
        own = c-is ∙ known.0

        read : get_or clocks (u * w + c) 0 ≡ g.rows u c
        read = ap (λ (xs : List ℕ). get_or xs (u * w + c) 0) g.clocks_are ∙ flat-read w (begins (ordering_at tr) (length tr)) (drop (events_in tr * w) clocks₀) g.rows u c below (omega (arith, own, known.1))

        pub add-room : (u * w + w ≤ length clocks) × (c < w) × (get_or clocks (u * w + c) 0 < 65535)
        add-room = (omega (arith, own, known.1, size, place w (begins (ordering_at tr) (length tr)) u (w - 1) below (omega (arith, own, known.1))), omega (arith, own, known.1), omega (arith, read, few c, low))

        ticked : tick w u c clocks ≡ flat w (begins (ordering_at tr) (length tr)) (add_at g.rows u c) ++ drop (events_in tr * w) clocks₀
        ticked = ap (tick w u c) g.clocks_are ∙ ticked-row w (begins (ordering_at tr) (length tr)) (drop (events_in tr * w) clocks₀) g.rows u c below (omega (arith, own, known.1))

        filled : Along (ordering_at tr) none (entry (trace_links tr)) (suc i) (add_at g.rows u c)
        filled = along-begin (ordering_at tr) none (entry (trace_links tr)) (length tr) (ops-ordered f.acceptable) i u g.rows (add_at g.rows u c) h (g.at-begin h) g.along (λ v d n. add-other g.rows u c v d n) (λ d. add-own g.rows u c d ∙ ap (λ (x : ℕ). g.rows u d + bit (eqb x d)) own ∙ omega (arith, merged d, entry-law (trace_links tr) (forward-links f.acceptable) u d))

        module _ (chains' : ℕ) (taken : chains' ≡ max chains (c + 1)) where
          chains-next : chains' ≡ used (leq (trace_links tr)) (suc u)
          chains-next = omega (arith, taken, own, g.chains_are, used-suc (leq (trace_links tr)) u)

          pub refilling-next : (clocks₁ : List ℕ) → clocks₁ ≡ tick w u c clocks → (j : ℕ) (clocks₂ : List ℕ) → walk_from tr ranks w chains' (i + 1) clocks₁ ≡ record { position = j; clocks = clocks₂ } → (i < j) × Refilling j (u + 1) chains' clocks₂
          refilling-next clocks₁ e j clocks₂ z = (
            rw (ap (λ (x : Walked). x.position) z) at v.later,
            record {
              rows = v.rows;
              clocks_are = sym (ap (λ (x : Walked). x.clocks) z) ∙ v.clocks_are;
              along = rw (ap (λ (x : Walked). x.position) z) at v.along;
              within = rw (ap (λ (x : Walked). x.position) z) at v.inside;
              begun = rw (← ap (λ (x : Walked). x.position) z) (v.none_begun ∙ next ∙ sym (add-one u));
              at-begin = rw (← ap (λ (x : Walked). x.position) z) (λ k. v.at-begin k ∙ ap Begin (next ∙ sym (add-one u)));
              chains_are = chains-next ∙ ap (used (leq (trace_links tr))) (sym (add-one u));
            },
          )
            where
              short : (p d : ℕ) → p < begins (ordering_at tr) (suc i) → d < w → (chains' ≤ d) ⊎ (p < d) → entry (trace_links tr) p d ≡ 0
              short p d k l (inl q) = entry_zero (trace_links tr) (forward-links f.acceptable) p d (omega (arith, chains-next, used-mono (leq (trace_links tr)) (suc p) (suc u) (omega (arith, next))))
              short p d k l (inr q) = entry_zero (trace_links tr) (forward-links f.acceptable) p d (omega (arith, used-le-self (leq (trace_links tr)) (suc p)))

              v : Arrives (ordering_at tr) (length tr) none (entry (trace_links tr)) w (drop (events_in tr * w) clocks₀) (suc i) (walk_from tr ranks w chains' (i + 1) clocks₁)
              v = trace-walk f.acceptable ranks f.ranks_are none (entry (trace_links tr)) w chains' (drop (events_in tr * w) clocks₀) f.narrow i (add_at g.rows u c) clocks₁ h (e ∙ ticked) filled short

  -- a row begins next just where not all have begun
  module _ {i u chains : ℕ} {clocks : List ℕ} (g : Refilling i u chains clocks) where
    pub refilling-on : u < events_in tr → i < length tr
    refilling-on l = go (lt-or-ge i (length tr))
      where
        go : (i < length tr) ⊎ (length tr ≤ i) → i < length tr
        go (inl h) = h
        go (inr h) = let e : i ≡ length tr = omega (arith, g.within) in absurd (omega (arith, ap (begins (ordering_at tr)) e, many, g.begun))

    pub refilling-over : events_in tr ≤ u → length tr ≤ i
    refilling-over l = go (lt-or-ge i (length tr))
      where
        go : (i < length tr) ⊎ (length tr ≤ i) → length tr ≤ i
        go (inl h) = absurd (omega (arith, below g h, many))
        go (inr h) = h

-- Filled clocks whose rows were overwritten are filled again.
module _ {tr : List Record} {ranks chosen : List ℕ} {w : ℕ} {clocks : List ℕ} (f : FilledClocks tr ranks chosen w clocks) where
  rows-length : length (trace_clocks tr w) ≡ events_in tr * w
  unfolding trace_clocks
  rows-length = clocks-length (trace_links tr) w (events_in tr)

  pub again-refillable : has_send tr ≡ false → (clocks₁ : List ℕ) → length clocks₁ ≡ length clocks → (count : ℕ) → count ≡ events_in tr → Refillable tr ranks chosen count w clocks₁
  again-refillable n clocks₁ l count e = record {
    acceptable = f.acceptable;
    no_send = n;
    ranks_are = f.ranks_are;
    chosen_are = f.chosen_are;
    events_are = e;
    narrow = f.narrow;
    enough = f.enough;
    room = omega (arith, ap length f.clocks_are, length-append (trace_clocks tr w) f.rest, rows-length);
  }

  pub again-filled : (clocks₁ : List ℕ) → drop (events_in tr * w) clocks₁ ≡ drop (events_in tr * w) clocks → (clocks₂ : List ℕ) → clocks₂ ≡ trace_clocks tr w ++ drop (events_in tr * w) clocks₁ → clocks₂ ≡ clocks
  again-filled clocks₁ d clocks₂ e = e ∙ ap (λ (xs : List ℕ). trace_clocks tr w ++ xs) (d ∙ ap (drop (events_in tr * w)) f.clocks_are ∙ drop_at (trace_clocks tr w) f.rest (events_in tr * w) rows-length) ∙ sym f.clocks_are
