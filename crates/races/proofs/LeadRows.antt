-- A row made ready from the rows before it, over any forward links: those that happen before it are merged into it, the latest first, but for those that
-- lead to one that was merged.
-- Assumes nothing.
use Prim.Native.Nat.{ℕ, suc, ◌+◌, ◌≤◌, ◌<◌, max}
use mathlib.Core.Path.{◌≡◌, refl, ap, ◌∙◌}
use mathlib.Core.Logic.{◌≢◌, ◌⊎◌, inl, inr}
use mathlib.Core.Bool.{Bool}
use native.Mathlib.Omega.{arith}
use borrow.Author.Tests.{eq-eqb, ne_eqb}
use lib.Dec.{eqb, eqb→eq}
use Rattle.slices.proofs.Tests.{decide_eq, decide-lt, eq→eqb}
use Rattle.order.specs.Links.{Links, Forward, ◌∈◌, ◌⊢◌≼◌, same, step}
use Rattle.order.specs.Chains.{bit}
use Rattle.order.specs.Clocks.{largest, chain_of, entry, merged}
use Rattle.order.specs.loops.Sets.{index}
use Rattle.order.proofs.OrderLaws.{≼-last}
use Rattle.order.proofs.CountLaws.{count-mono}
use Rattle.order.proofs.SetLaws.{largest-in, largest-le}
use Rattle.order.proofs.ClockLaws.{below, chain-≼, of-below, is_below, entry-law, clock, entry-decides}

-- the own entry of an event action is its place in its chain
pub entry-own : (l : Links) → Forward l → (p : ℕ) → entry l p (chain_of l p) ≡ index (chain_of l) p
unfolding index
entry-own l fw p =
    let most = count-mono (below l p (chain_of l p)) (λ s. eqb (chain_of l s) (chain_of l p)) (suc p) (suc p) (λ s h b. (h, eq→eqb (chain_of l s) (chain_of l p) (of-below l fw p (chain_of l p) s b).0)) in
    let least = count-mono (λ s. eqb (chain_of l s) (chain_of l p)) (below l p (chain_of l p)) (suc p) (suc p) (λ s h b. let e = eqb→eq (chain_of l s) (chain_of l p) b in (h, is_below l fw p (chain_of l p) s e (chain-≼ l fw s p (omega arith) e))) in
    omega (arith, clock l fw p (chain_of l p), most, least)

-- What is asked of the rows before row t: each has its own entry, is no less than its clock row, and is within every row that it leads to.
pub record Closed (l : Links) (t : ℕ) (final : ℕ → ℕ → ℕ) : Type 0 where
  pub own : (p : ℕ) → p < t → final p (chain_of l p) ≡ entry l p (chain_of l p)
  pub low : (p c : ℕ) → p < t → entry l p c ≤ final p c
  pub leads : (p q : ℕ) → p < t → q < t → entry l p (chain_of l p) ≤ final q (chain_of l p) → (c : ℕ) → final p c ≤ final q c

module _ (l : Links) (t : ℕ) (final : ℕ → ℕ → ℕ) where
  -- the largest of the rows of its direct predecessors; with its clock row
  abbrev passed : ℕ → ℕ
  passed c = largest (l.preds t) (λ p. final p c)

  abbrev pub ready : ℕ → ℕ
  ready c = max (entry l t c) (largest (l.preds t) (λ p. final p c))

  -- an entry of the row is that of a row all of which is within, if there is one
  abbrev From : (ℕ → ℕ) → ℕ → Type 0
  From row c = (row c ≡ 0) ⊎ ((r : ℕ) × (r < t) × (row c ≡ final r c) × ((d : ℕ) → final r d ≤ row d))

  -- Row t, where the rows from k on were looked at.
  pub record Leading (k : ℕ) (row : ℕ → ℕ) : Type 0 where
    pub at_most : (c : ℕ) → row c ≤ passed c
    pub within : (p : ℕ) → k ≤ p → p < t → l ⊢ p ≼ t → (c : ℕ) → final p c ≤ row c
    pub from : (c : ℕ) → From row c

module _ (l : Links) (fw : Forward l) (t : ℕ) (final : ℕ → ℕ → ℕ) (cl : Closed l t final) where
  pub lead-start : (row : ℕ → ℕ) → ((c : ℕ) → row c ≡ 0) → Leading l t final t row
  lead-start row e = record { at_most = λ c. omega (arith, e c); within = λ p h k n c. absurd (omega arith); from = λ c. inl (e c) }

  -- the row of one that happens before t is within that of a direct predecessor
  before-most : (p : ℕ) → p < t → l ⊢ p ≼ t → (c : ℕ) → final p c ≤ passed l t final c
  before-most p h n = go ((≼-last l p t).0 n)
    where
      go : (p ≡ t) ⊎ ((q : ℕ) × (l ⊢ p ≼ q) × (q ∈ l.preds t)) → (c : ℕ) → final p c ≤ passed l t final c
      go (inl e) c = absurd (omega arith)
      go (inr (q, k, m)) c =
          let e = omega-own q m k in
          omega (arith, cl.leads p q h (fw t q m) e c, largest-in (l.preds t) (λ x. final x c) q m)
        where
          omega-own : (q : ℕ) → q ∈ l.preds t → l ⊢ p ≼ q → entry l p (chain_of l p) ≤ final q (chain_of l p)
          omega-own q m k = omega (arith, (entry-decides l fw p q).1 k, cl.low q (chain_of l p) (fw t q m))

  -- such a row is merged
  pub lead-merge : {p : ℕ} {row : ℕ → ℕ} → Leading l t final (suc p) row → p < t → l ⊢ p ≼ t → (row' : ℕ → ℕ) → ((c : ℕ) → row' c ≡ max (row c) (final p c)) → Leading l t final p row'
  lead-merge {p} {row} g h k row' e = record {
    at_most = λ c. omega (arith, e c, g.at_most c, before-most p h k c);
    within = λ q i j n c. within q i j n c (decide_eq q p);
    from = λ c. from c (g.from c) (decide-lt (row c) (final p c));
  }
    where
      within : (q : ℕ) → p ≤ q → q < t → l ⊢ q ≼ t → (c : ℕ) → (q ≡ p) ⊎ (q ≢ p) → final q c ≤ row' c
      within q i j n c (inl z) = omega (arith, e c, ap (λ (x : ℕ). final x c) z)
      within q i j n c (inr z) = omega (arith, e c, g.within q (omega arith) j n c)

      from : (c : ℕ) → (row c ≡ 0) ⊎ ((r : ℕ) × (r < t) × (row c ≡ final r c) × ((d : ℕ) → final r d ≤ row d)) → (row c < final p c) ⊎ (final p c ≤ row c) → (row' c ≡ 0) ⊎ ((r : ℕ) × (r < t) × (row' c ≡ final r c) × ((d : ℕ) → final r d ≤ row' d))
      from c f (inl n) = inr (p, h, omega (arith, e c), λ d. omega (arith, e d))
      from c (inl f) (inr n) = inl (omega (arith, e c))
      from c (inr (r, i, f, w)) (inr n) = inr (r, i, omega (arith, e c), λ d. omega (arith, e d, w d))

  -- another one happens before t only where the row has its own entry, so it leads to a row that is within
  module _ {p : ℕ} {row : ℕ → ℕ} (g : Leading l t final (suc p) row) (h : p < t) (n : l ⊢ p ≼ t → entry l p (chain_of l p) ≤ row (chain_of l p)) where
    within-already : l ⊢ p ≼ t → (c : ℕ) → final p c ≤ row c
    within-already k = go (g.from (chain_of l p))
      where
        go : (row (chain_of l p) ≡ 0) ⊎ ((r : ℕ) × (r < t) × (row (chain_of l p) ≡ final r (chain_of l p)) × ((d : ℕ) → final r d ≤ row d)) → (c : ℕ) → final p c ≤ row c
        go (inl e) c =
            let d : entry l p (chain_of l p) ≡ merged l p (chain_of l p) + 1 = entry-law l fw p (chain_of l p) ∙ ap (λ (b : Bool). merged l p (chain_of l p) + bit b) (eq-eqb (chain_of l p) (chain_of l p) refl) in
            absurd (omega (arith, n k))
        go (inr (r, i, e, w)) c = omega (arith, cl.leads p r h i (omega (arith, n k)) c, w c)

    pub lead-skip : Leading l t final p row
    lead-skip = record { at_most = g.at_most; within = λ q i j k c. within q i j k c (decide_eq q p); from = g.from }
      where
        within : (q : ℕ) → p ≤ q → q < t → l ⊢ q ≼ t → (c : ℕ) → (q ≡ p) ⊎ (q ≢ p) → final q c ≤ row c
        within q i j k c (inl z) = rw z (within-already (rw z at k) c)
        within q i j k c (inr z) = g.within q (omega arith) j k c

  -- all were looked at
  pub lead-end : {row : ℕ → ℕ} → Leading l t final 0 row → (c : ℕ) → row c ≡ largest (l.preds t) (λ p. final p c)
  lead-end {row} g c =
      let h = largest-le (l.preds t) (λ p. final p c) (row c) (λ p m. g.within p (omega arith) (fw t p m) (step (same refl) m) c) in
      omega (arith, h, g.at_most c)

  -- but for its own entry the clock row is within them
  pub clock-within : (c : ℕ) → chain_of l t ≢ c → entry l t c ≤ largest (l.preds t) (λ p. final p c)
  clock-within c n =
      let d : entry l t c ≡ merged l t c + 0 = entry-law l fw t c ∙ ap (λ (b : Bool). merged l t c + bit b) (ne_eqb (chain_of l t) c n) in
      let h = largest-le (l.preds t) (λ p. entry l p c) (largest (l.preds t) (λ p. final p c)) (λ p m. omega (arith, cl.low p c (fw t p m), largest-in (l.preds t) (λ x. final x c) p m)) in
      omega (arith, h)
