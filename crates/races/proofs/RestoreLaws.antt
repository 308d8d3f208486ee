-- The rows made from the table again, one after another.
-- Assumes nothing.
use Prim.Native.Nat.{ℕ, suc, ◌+◌, ◌*◌, ◌-◌, ◌≤◌, ◌<◌}
use mathlib.Core.Path.{◌≡◌, refl, sym, ap, ◌∙◌}
use mathlib.Core.Logic.{◌≢◌, ◌⊎◌, inl, inr}
use mathlib.Core.Bool.{Bool, cond}
use mathlib.Core.List.{List, ◌++◌}
use native.Mathlib.Omega.{arith}
use borrow.Author.Tests.{eq-eqb, ne_eqb}
use lib.Dec.{eqb}
use lib.ListN.{length, get_or, drop, length-append}
use Rattle.slices.proofs.Tests.{decide_eq}
use Rattle.clocks.specs.Rows.{clear_row}
use Rattle.order.specs.Chains.{bit}
use Rattle.order.specs.Clocks.{chain_of, entry, merged, flat, clocks_of}
use Rattle.order.specs.loops.Pass.{tick}
use Rattle.order.specs.loops.FromTable.{take_before, RoomToTake}
use Rattle.order.proofs.ClockLaws.{entry-law, entry-le}
use Rattle.order.proofs.RowLaws.{flat-length, flat-same, place}
use Rattle.order.proofs.FlatLaws.{zero_in, zero-own, zero-other, add_at, add-own, add-other, flat-read, flat-any, cleared-row, ticked-row}
use Rattle.order.proofs.FromTableLaws.{clocks-from-table}
use Rattle.races.specs.loops.Keeping.{Restorable}

module _ {before : ℕ → ℕ → Bool} {m w : ℕ} {chosen clocks₀ : List ℕ} (f : Restorable before m w chosen clocks₀) where
  -- the rows before u are made
  pub record Restoring (u : ℕ) (clocks : List ℕ) : Type 0 where
    pub rows : ℕ → ℕ → ℕ
    pub clocks_are : clocks ≡ flat w m rows ++ drop (m * w) clocks₀
    pub done : (t c : ℕ) → t < u → rows t c ≡ entry f.links t c

  pub restoring-start : Restoring 0 clocks₀
  restoring-start = record { rows = λ u c. get_or clocks₀ (u * w + c) 0; clocks_are = flat-any w m clocks₀ f.room; done = λ t c h. absurd (omega arith) }

  pub restoring-end : {u : ℕ} {clocks : List ℕ} → Restoring u clocks → m ≤ u → clocks ≡ clocks_of f.links w m ++ drop (m * w) clocks₀
  unfolding clocks_of
  restoring-end g h = g.clocks_are ∙ ap (λ (xs : List ℕ). xs ++ drop (m * w) clocks₀) (flat-same w m g.rows (entry f.links) (λ t c i j. g.done t c (omega arith)))

  -- the next row
  module _ {u : ℕ} {clocks : List ℕ} (g : Restoring u clocks) (h : u < m) where
    size : length clocks ≡ m * w + length (drop (m * w) clocks₀)
    size = ap length g.clocks_are ∙ length-append (flat w m g.rows) (drop (m * w) clocks₀) ∙ ap (λ (k : ℕ). k + length (drop (m * w) clocks₀)) (flat-length w m g.rows)

    fits : chain_of f.links u < w
    fits = (f.chains u h).1

    pub row_room : u * w + w ≤ length clocks
    row_room = omega (arith, size, fits, place w m u (w - 1) h (omega (arith, fits)))

    pub take-room : {cleared : List ℕ} → length cleared ≡ length clocks → RoomToTake w u cleared chosen
    take-room e = record {
      narrow = f.narrow;
      few = omega (arith, f.few);
      row = omega (arith, e, row_room);
      chosen_room = omega (arith, f.known);
      fits = λ t k. let c = f.chains t (omega arith) in omega (arith, c.0, c.1);
    }

    module _ {cleared taken : List ℕ} (ec : cleared ≡ clear_row w u clocks) (et : taken ≡ take_before (λ t. before t u) w u chosen u cleared) where
      ready : ℕ → ℕ → ℕ
      ready v c = cond (eqb v u) (merged f.links u c) (zero_in g.rows u v c)

      ready-own : (c : ℕ) → ready u c ≡ merged f.links u c
      unfolding ready
      ready-own c = rw (eq-eqb u u refl) refl

      ready-other : (v c : ℕ) → v ≢ u → ready v c ≡ g.rows v c
      unfolding ready
      ready-other v c n = ap (λ (b : Bool). cond b (merged f.links u c) (zero_in g.rows u v c)) (ne_eqb v u n) ∙ zero-other g.rows u v c n

      cleared-are : cleared ≡ flat w m (zero_in g.rows u) ++ drop (m * w) clocks₀
      cleared-are = ec ∙ ap (clear_row w u) g.clocks_are ∙ cleared-row w m (drop (m * w) clocks₀) g.rows u f.narrow h

      taken-are : taken ≡ flat w m ready ++ drop (m * w) clocks₀
      unfolding ready
      taken-are =
          et ∙ ap (take_before (λ t. before t u) w u chosen u) cleared-are
          ∙ clocks-from-table f.links f.tells.forward m before f.tells.tests w u (drop (m * w) clocks₀) chosen (zero_in g.rows u) h
          (λ t k. (f.chains t (omega arith)).0) (λ t k. (f.chains t (omega arith)).1)
          (λ t c k. zero-other g.rows u t c (λ z. omega (arith, z)) ∙ g.done t c k) (zero-own g.rows u)

      read-own : (c : ℕ) → c < w → get_or taken (u * w + c) 0 ≡ merged f.links u c
      read-own c k = ap (λ (xs : List ℕ). get_or xs (u * w + c) 0) taken-are ∙ flat-read w m (drop (m * w) clocks₀) ready u c h k ∙ ready-own c

      few : (c : ℕ) → merged f.links u c ≤ suc u
      few c = omega (arith, entry-law f.links f.tells.forward u c, entry-le f.links f.tells.forward u c)

      module _ (c : ℕ) (c-is : c ≡ get_or chosen u 0) where
        own : c ≡ chain_of f.links u
        own = c-is ∙ (f.chains u h).0

        pub tick-room : length taken ≡ length clocks → (u * w + w ≤ length taken) × (c < w) × (get_or taken (u * w + c) 0 < 65535)
        tick-room e = (omega (arith, e, row_room), omega (arith, own, fits), omega (arith, read-own c (omega (arith, own, fits)), few c, f.few))

        pub restoring-next : (clocks' : List ℕ) → clocks' ≡ tick w u c taken → Restoring (u + 1) clocks'
        restoring-next clocks' e = record {
          rows = add_at ready u c;
          clocks_are = e ∙ ap (tick w u c) taken-are ∙ ticked-row w m (drop (m * w) clocks₀) ready u c h (omega (arith, own, fits));
          done = λ t d k. done t d k (decide_eq t u);
        }
          where
            done : (t d : ℕ) → t < u + 1 → (t ≡ u) ⊎ (t ≢ u) → add_at ready u c t d ≡ entry f.links t d
            done t d k (inl z) =
                rw z (add-own ready u c d ∙ ap (λ (x : ℕ). x + bit (eqb c d)) (ready-own d) ∙ ap (λ (x : ℕ). merged f.links u d + bit (eqb x d)) own
                ∙ sym (entry-law f.links f.tells.forward u d))
            done t d k (inr z) = add-other ready u c t d z ∙ ready-other t d z ∙ g.done t d (omega arith)
