-- What happens before what, kept bit by bit.
-- Assumes nothing.
use Prim.Native.Nat.{ℕ, ◌+◌, ◌*◌, ◌≤◌, ◌<◌}
use mathlib.Core.Path.{◌≡◌, refl, sym, ap, ◌∙◌}
use mathlib.Core.Logic.{◌≢◌, ◌⊎◌, inl, inr}
use mathlib.Core.Bool.{Bool, true, false, ◌&&◌, ◌||◌}
use mathlib.Core.List.{List, ◌++◌}
use native.Mathlib.Omega.{arith}
use borrow.Author.Tests.{eq-eqb, ne_eqb}
use lib.Dec.{eqb}
use lib.ListN.{length, get_or, drop}
use Rattle.slices.specs.Slices.{zeros}
use Rattle.slices.proofs.Tests.{decide_eq, same as equal-tests}
use Rattle.bits.specs.Table.{bit_of, put_bit}
use Rattle.bits.proofs.RowLaws.{proper-put, puts-bit, proper-zeros, no-bit}
use Rattle.clocks.specs.Rows.{compare_in}
use Rattle.records.specs.declared.Record.{Record}
use Rattle.order.specs.Links.{leq}
use Rattle.order.specs.Clocks.{chain_of, entry, clocks_of, compare}
use Rattle.order.specs.Fill.{events_in, trace_clocks}
use Rattle.order.specs.HappensBefore.{trace_links}
use Rattle.order.proofs.OrderLaws.{leq-decides}
use Rattle.order.proofs.ClockLaws.{compare-decides}
use Rattle.order.proofs.FlatLaws.{flat-read}
use Rattle.order.proofs.TraceOrder.{forward-links}
use Rattle.order.proofs.TableLaws.{events-few}
use Rattle.races.specs.loops.FilledClocks.{FilledClocks}
use Rattle.races.specs.loops.Keeping.{Kept, MayKeep, Restorable}
use Rattle.races.proofs.FilledLaws.{rows_in, chosen-length, clocks-hold}
use Rattle.races.proofs.PlaceLaws.{chain-place}

module _ (chosen : List ℕ) (w : ℕ) (clocks : List ℕ) where
  pub kept-start : {table : List ℕ} → table ≡ zeros 8704 → Kept chosen w clocks 0 0 table
  kept-start e = rw e (record {
    proper = proper-zeros;
    rows = λ t v h k. absurd (omega arith);
    row = λ t h. absurd (omega arith);
    rest = λ t h. no-bit 8704 t 0;
    none = λ t v h. no-bit 8704 t v;
  })

  module _ {u t : ℕ} {table : List ℕ} (g : Kept chosen w clocks u t table) (h : t < u) where
    -- a bit that is left
    pub kept-left : compare_in clocks w (get_or chosen t 0) t u ≡ false → Kept chosen w clocks u (t + 1) table
    kept-left e = record { proper = g.proper; rows = g.rows; row = λ s k. row s k (decide_eq s t); rest = λ s k. g.rest s (omega arith); none = g.none }
      where
        row : (s : ℕ) → s < t + 1 → (s ≡ t) ⊎ (s ≢ t) → bit_of table s u ≡ compare_in clocks w (get_or chosen s 0) s u
        row s k (inl z) = rw z (g.rest t (omega arith) ∙ sym e)
        row s k (inr z) = g.row s (omega arith)

    -- a bit that is put
    module _ (few : u < 1024) (e : compare_in clocks w (get_or chosen t 0) t u ≡ true) where
      here : bit_of (put_bit t u table) t u ≡ true
      here = puts-bit t u (omega arith) few table g.proper t u ∙ rw (eq-eqb t t refl, eq-eqb u u refl, g.rest t (omega arith)) refl

      or-false : (x : Bool) → (x || false) ≡ x
      or-false true = refl
      or-false false = refl

      away : (s v : ℕ) → (eqb s t && eqb v u) ≡ false → bit_of (put_bit t u table) s v ≡ bit_of table s v
      away s v z = puts-bit t u (omega arith) few table g.proper s v ∙ rw z (or-false (bit_of table s v))

      other_row : (s v : ℕ) → v ≢ u → (eqb s t && eqb v u) ≡ false
      other_row s v n = go (eqb s t)
        where
          go : (b : Bool) → (b && eqb v u) ≡ false
          go true = ne_eqb v u n
          go false = refl

      other-bit : (s v : ℕ) → s ≢ t → (eqb s t && eqb v u) ≡ false
      other-bit s v n = rw (ne_eqb s t n) refl

      pub kept_put : Kept chosen w clocks u (t + 1) (put_bit t u table)
      kept_put = record {
        proper = proper-put t u (omega arith) few table g.proper;
        rows = λ s v k i. away s v (other_row s v (λ z. omega (arith, z))) ∙ g.rows s v k i;
        row = λ s k. row s k (decide_eq s t);
        rest = λ s k. away s u (other-bit s u (λ z. omega (arith, z))) ∙ g.rest s (omega arith);
        none = λ s v k. away s v (other_row s v (λ z. omega (arith, z))) ∙ g.none s v k;
      }
        where
          row : (s : ℕ) → s < t + 1 → (s ≡ t) ⊎ (s ≢ t) → bit_of (put_bit t u table) s u ≡ compare_in clocks w (get_or chosen s 0) s u
          row s k (inl z) = rw z (here ∙ sym e)
          row s k (inr z) = away s u (other-bit s u z) ∙ g.row s (omega arith)

  -- a row is whole
  pub kept_row : {u k : ℕ} {table : List ℕ} → Kept chosen w clocks u k table → u ≤ k → Kept chosen w clocks (u + 1) 0 table
  kept_row {u} {k} {table} g h = record {
    proper = g.proper;
    rows = λ t v i j. rows t v i j (decide_eq v u);
    row = λ t i. absurd (omega arith);
    rest = λ t i. g.none t (u + 1) (omega arith);
    none = λ t v i. g.none t v (omega arith);
  }
    where
      rows : (t v : ℕ) → t < v → v < u + 1 → (v ≡ u) ⊎ (v ≢ u) → bit_of table t v ≡ compare_in clocks w (get_or chosen t 0) t v
      rows t v i j (inl z) = rw z (g.row t (omega (arith, z)))
      rows t v i j (inr z) = g.rows t v i (omega arith)

  pub kept-all : {u events : ℕ} {table : List ℕ} → Kept chosen w clocks u 0 table → u ≡ events → Kept chosen w clocks events 0 table
  kept-all g e = rw (← e) g

-- Over filled clocks the table tells the trace's order.
module _ {tr : List Record} {ranks chosen : List ℕ} {w : ℕ} {clocks : List ℕ} (f : FilledClocks tr ranks chosen w clocks) {events : ℕ} (n : events ≡ events_in tr) where
  pub may-keep : MayKeep chosen events w clocks
  may-keep = record { few = omega (arith, n, events-few f.acceptable); rows = λ t u h k. rows_in f t u (omega (arith, n)) (omega (arith, n)) }

  chain : (t : ℕ) → t < events → (get_or chosen t 0 ≡ chain_of (trace_links tr) t) × (chain_of (trace_links tr) t < w)
  chain t h = chain-place f.acceptable chosen w f.chosen_are f.enough t (omega (arith, n))

  tells-order : (t u : ℕ) → t < u → u < events → compare_in clocks w (get_or chosen t 0) t u ≡ leq (trace_links tr) t u
  unfolding compare_in compare trace_clocks clocks_of
  tells-order t u h k =
      let (e, i) = chain t (omega arith) in
      let l = trace_links tr in
      let m = events_in tr in
      rw (e, f.clocks_are, flat-read w m f.rest (entry l) t (chain_of l t) (omega (arith, n)) i, flat-read w m f.rest (entry l) u (chain_of l t) (omega (arith, n)) i)
      (equal-tests (compare l t u) (leq l t u) (λ b. (leq-decides l (forward-links f.acceptable) t u).1 ((compare-decides l (forward-links f.acceptable) t u).0 b))
      (λ b. (compare-decides l (forward-links f.acceptable) t u).1 ((leq-decides l (forward-links f.acceptable) t u).0 b)))

  pub restorable : {table : List ℕ} → Kept chosen w clocks events 0 table → (clocks₁ : List ℕ) → length clocks₁ ≡ length clocks → Restorable (bit_of table) events w chosen clocks₁
  restorable g clocks₁ s = record {
    links = trace_links tr;
    tells = record { forward = forward-links f.acceptable; tests = λ p u h k. g.rows p u h k ∙ tells-order p u h k };
    narrow = f.narrow;
    few = omega (arith, n, events-few f.acceptable);
    room = room;
    known = omega (arith, n, chosen-length f, events-few f.acceptable);
    chains = chain;
  }
    where
      room : events * w ≤ length clocks₁
      room = rw (n, s) (clocks-hold f)

  -- and the rows made from it are the trace's
  pub restored : {table : List ℕ} → Kept chosen w clocks events 0 table → (clocks₁ clocks₂ : List ℕ) → length clocks₁ ≡ length clocks
      → ((r : Restorable (bit_of table) events w chosen clocks₁) → clocks₂ ≡ clocks_of r.links w events ++ drop (events * w) clocks₁)
      → clocks₂ ≡ trace_clocks tr w ++ drop (events_in tr * w) clocks₁
  unfolding restorable trace_clocks
  restored g clocks₁ clocks₂ s e = e (restorable g clocks₁ s) ∙ ap (λ (k : ℕ). clocks_of (trace_links tr) w k ++ drop (k * w) clocks₁) n
