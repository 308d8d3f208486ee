-- The numbers that pass a test, by their place in the list of them. Assumes nothing.
use Prim.Native.Nat.{ℕ, zero, suc, ◌+◌, ◌≤◌, ◌<◌}
use mathlib.Core.Path.{◌≡◌, refl, sym, ap, ◌∙◌}
use mathlib.Core.Logic.{◌⊎◌, inl, inr}
use mathlib.Core.Bool.{Bool, true, false, not}
use mathlib.Core.List.{[], ◌∷◌, ◌++◌}
use native.Mathlib.Omega.{arith}
use native.Mathlib.Decide.{ℕ_discrete, dec_lt}
use lib.Dec.{T}
use lib.ListN.{length, get_or, length-append, get_or-append}
use lib.Seq.{get_or-append-add}
use Rattle.coverage.specs.Below.{upto}
use Rattle.slices.proofs.Tests.{decide}
use Rattle.coverage.proofs.Lists.{upto-yes, upto-no}

module _ (p : ℕ → Bool) where
  -- how many numbers below m pass: the place of m among those that do, where it does
  abbrev pub size : ℕ → ℕ
  size m = length (upto m p)

  -- the number at a place
  abbrev pub item : ℕ → ℕ → ℕ
  item m k = get_or (upto m p) k 0

  pub size-zero : size 0 ≡ 0
  unfolding upto
  size-zero = refl

  pub size-yes : (m : ℕ) → T (p m) → size (suc m) ≡ size m + 1
  size-yes m h = ap length (upto-yes m p h) ∙ length-append (upto m p) (m ∷ [])

  pub size-no : (m : ℕ) → (T (p m) → ⊥) → size (suc m) ≡ size m
  size-no m h = ap length (upto-no m p h)

  last-item : (m : ℕ) → T (p m) → item (suc m) (size m) ≡ m
  last-item m h =
      let z : size m + 0 ≡ size m = omega arith in
      rw (upto-yes m p h) (ap (λ (k : ℕ). get_or (upto m p ++ (m ∷ [])) k 0) (sym z) ∙ get_or-append-add (upto m p) (m ∷ []) 0 0)

  same_item : (m k : ℕ) → T (p m) → k < size m → item (suc m) k ≡ item m k
  same_item m k h l = rw (upto-yes m p h) (get_or-append (upto m p) (m ∷ []) 0 k l)

  -- a number at a place is below the bound and passes
  pub item-passes : (m k : ℕ) → k < size m → (item m k < m) × T (p (item m k))
  item-passes zero k l = absurd (omega (arith, size-zero))
  item-passes (suc m) k l = go (decide (p m)) (item-passes m k)
    where
      at : T (p m) → (k < size m) ⊎ (k ≡ size m) → (k < size m → (item m k < m) × T (p (item m k))) → (item (suc m) k < suc m) × T (p (item (suc m) k))
      at h (inl q) ih = let r = ih q in rw (same_item m k h q) (omega (arith, r.0), r.1)
      at h (inr q) ih = rw (q, last-item m h) (omega arith, h)

      go : T (p m) ⊎ (T (p m) → ⊥) → (k < size m → (item m k < m) × T (p (item m k))) → (item (suc m) k < suc m) × T (p (item (suc m) k))
      go (inr h) ih =
          let r = ih (omega (arith, size-no m h)) in
          rw (upto-no m p h) (omega (arith, r.0), r.1)
      go (inl h) ih = at h (side (dec_lt k (size m))) ih
        where
          side : Dec (k < size m) → (k < size m) ⊎ (k ≡ size m)
          side (yes q) = inl q
          side (no q) = inr (omega (arith, size-yes m h, q))

  -- a number that passes stands at its place
  pub item-at : (m i : ℕ) → i < m → T (p i) → (item m (size i) ≡ i) × (size i < size m)
  item-at zero i l h = absurd (omega arith)
  item-at (suc m) i l h = go (ℕ_discrete i m) (decide (p m)) (item-at m i)
    where
      go : Dec (i ≡ m) → T (p m) ⊎ (T (p m) → ⊥) → (i < m → T (p i) → (item m (size i) ≡ i) × (size i < size m)) → (item (suc m) (size i) ≡ i) × (size i < size (suc m))
      go (yes e) (inl q) ih = rw e (last-item m q, omega (arith, size-yes m q))
      go (yes e) (inr q) ih = absurd (q (rw e at h))
      go (no n) (inl q) ih =
          let r = ih (omega arith) h in
          (same_item m (size i) q r.1 ∙ r.0, omega (arith, r.1, size-yes m q))
      go (no n) (inr q) ih =
          let r = ih (omega arith) h in
          (rw (upto-no m p q) r.0, omega (arith, r.1, size-no m q))

  pub size-more : (i m : ℕ) → i ≤ m → size i ≤ size m
  size-more i zero l = let z : i ≡ 0 = omega arith in rw z (omega arith)
  size-more i (suc m) l = go (ℕ_discrete i (suc m)) (decide (p m)) (size-more i m)
    where
      go : Dec (i ≡ suc m) → T (p m) ⊎ (T (p m) → ⊥) → (i ≤ m → size i ≤ size m) → size i ≤ size (suc m)
      go (yes e) q ih = rw e (omega arith)
      go (no n) (inl q) ih = omega (arith, size-yes m q, ih (omega arith))
      go (no n) (inr q) ih = omega (arith, size-no m q, ih (omega arith))

  -- the place of the number at a place is that place, and places go up
  pub item-rises : (m k l : ℕ) → k < l → l < size m → item m k < item m l
  item-rises zero k l q h = absurd (omega (arith, size-zero))
  item-rises (suc m) k l q h = go (decide (p m)) (item-rises m k l q)
    where
      at : T (p m) → (l < size m) ⊎ (l ≡ size m) → (l < size m → item m k < item m l) → item (suc m) k < item (suc m) l
      at y (inl z) ih = rw (same_item m k y (omega arith), same_item m l y z) (ih z)
      at y (inr z) ih = let r = item-passes m k (omega arith) in rw (z, last-item m y, same_item m k y (omega arith)) r.0

      go : T (p m) ⊎ (T (p m) → ⊥) → (l < size m → item m k < item m l) → item (suc m) k < item (suc m) l
      go (inr y) ih = rw (upto-no m p y) (ih (omega (arith, size-no m y)))
      go (inl y) ih = at y (side (dec_lt l (size m))) ih
        where
          side : Dec (l < size m) → (l < size m) ⊎ (l ≡ size m)
          side (yes z) = inl z
          side (no z) = inr (omega (arith, size-yes m y, z))

  pub place_of : (m k : ℕ) → k < size m → size (item m k) ≡ k
  place_of m k h =
      let r = item-passes m k h in
      let s = item-at m (item m k) r.0 r.1 in
      let f : k < size (item m k) → ⊥ = λ q. omega (arith, item-rises m k (size (item m k)) q s.1, s.0) in
      let g : size (item m k) < k → ⊥ = λ q. omega (arith, item-rises m (size (item m k)) k q h, s.0) in
      omega (arith, f, g)

pub no-not : (b : Bool) → T b → T (not b) → ⊥
no-not true h k = k
no-not false h k = h

pub not-no : (b : Bool) → (T b → ⊥) → T (not b)
not-no true h = h tt
not-no false h = tt

-- what passes and what does not, together
pub sizes-together : (p : ℕ → Bool) (m : ℕ) → size p m + size (λ i. not (p i)) m ≡ m
sizes-together p zero = omega (arith, size-zero p, size-zero (λ i. not (p i)))
sizes-together p (suc m) = go (decide (p m)) (sizes-together p m)
  where
    go : T (p m) ⊎ (T (p m) → ⊥) → size p m + size (λ i. not (p i)) m ≡ m → size p (suc m) + size (λ i. not (p i)) (suc m) ≡ suc m
    go (inl h) e = omega (arith, size-yes p m h, size-no (λ i. not (p i)) m (no-not (p m) h), e)
    go (inr h) e = omega (arith, size-no p m h, size-yes (λ i. not (p i)) m (not-no (p m) h), e)

pub size-most : (p : ℕ → Bool) (m : ℕ) → size p m ≤ m
size-most p m = let e = sizes-together p m in omega arith
