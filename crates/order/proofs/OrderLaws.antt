-- Happens-before is an order that goes forward, and `leq` decides it. Assumes nothing.
use Prim.Native.Nat.{ℕ, ◌≤◌, ◌<◌}
use mathlib.Core.Path.{◌≡◌, refl, ap, ap₂, subst}
use mathlib.Core.Logic.{◌≢◌, ◌⊎◌, inl, inr, ◌↔◌}
use mathlib.Core.Bool.{Bool, false, ◌||◌}
use mathlib.Core.List.Memᴰ
use mathlib.Core.List.{List, [], ◌∷◌}
use native.Mathlib.Omega.{arith}
use lib.Dec.{T, eqb, eqb→eq}
use Rattle.order.specs.Links.{Links, Forward, ◌∈◌, ◌⊢◌≼◌, same, step, some, leq}
use Rattle.order.proofs.AlongLaws.{along-law}
use Rattle.slices.proofs.Tests.{either, or_left, or_right, decide_eq, eq→eqb, smaller}

pub found : (q : ℕ → Bool) (ps : List ℕ) → T (some q ps) → (p : ℕ) × (p ∈ ps) × T (q p)
unfolding some
found q [] h = absurd h
found q (p ∷ ps) h = go (either (q p) (some q ps) h) (found q ps)
  where
    go : T (q p) ⊎ T (some q ps) → (T (some q ps) → (v : ℕ) × (v ∈ ps) × T (q v)) → (v : ℕ) × (v ∈ p ∷ ps) × T (q v)
    go (inl k) f = (p, Memᴰ.head refl, k)
    go (inr k) f = let r = f k in (r.0, Memᴰ.tail r.1, r.2)

pub find : (q : ℕ → Bool) (ps : List ℕ) (p : ℕ) → p ∈ ps → T (q p) → T (some q ps)
unfolding some
find q [] p m h = elim m [ ]
find q (x ∷ ps) p (Memᴰ.head e) h = or_left (q x) (some q ps) (subst (λ (y : ℕ). T (q y)) e h)
find q (x ∷ ps) p (Memᴰ.tail m) h = or_right (q x) (some q ps) (find q ps p m h)

some-local : (ps : List ℕ) (r s : ℕ → Bool) → ((p : ℕ) → p ∈ ps → r p ≡ s p) → some r ps ≡ some s ps
unfolding some
some-local [] r s e = refl
some-local (p ∷ ps) r s e = ap₂ ◌||◌ (e p (Memᴰ.head refl)) (some-local ps r s (λ q m. e q (Memᴰ.tail m)))

module _ (l : Links) where
  pub ≼_refl : (t : ℕ) → l ⊢ t ≼ t
  ≼_refl t = same refl

  pub ≼_trans : {t u v : ℕ} → l ⊢ t ≼ u → l ⊢ u ≼ v → l ⊢ t ≼ v
  ≼_trans {t} h (same e) = subst (λ x. l ⊢ t ≼ x) e h
  ≼_trans h (step k m) = step (≼_trans h k) m

  -- by the last link
  pub ≼-last : (t u : ℕ) → (l ⊢ t ≼ u) ↔ ((t ≡ u) ⊎ ((p : ℕ) × (l ⊢ t ≼ p) × (p ∈ l.preds u)))
  ≼-last t u = (there, back)
    where
      there : l ⊢ t ≼ u → (t ≡ u) ⊎ ((p : ℕ) × (l ⊢ t ≼ p) × (p ∈ l.preds u))
      there (same e) = inl e
      there (step {p = p} h m) = inr (p, h, m)

      back : (t ≡ u) ⊎ ((p : ℕ) × (l ⊢ t ≼ p) × (p ∈ l.preds u)) → l ⊢ t ≼ u
      back (inl e) = same e
      back (inr r) = step r.1 r.2

  -- by the first link
  pub ≼-first : {t u : ℕ} → l ⊢ t ≼ u → t ≢ u → (v : ℕ) × (t ∈ l.preds v) × (l ⊢ v ≼ u)
  ≼-first (same e) n = absurd (n e)
  ≼-first {t} {u} (step {p = p} h m) n = go (decide_eq t p) (≼-first h)
    where
      go : (t ≡ p) ⊎ (t ≢ p) → (t ≢ p → (v : ℕ) × (t ∈ l.preds v) × (l ⊢ v ≼ p)) → (v : ℕ) × (t ∈ l.preds v) × (l ⊢ v ≼ u)
      go (inl e) f = (u, Memᴰ.cast e m, same refl)
      go (inr k) f = let r = f k in (r.0, r.1, step r.2 m)

module _ (l : Links) (fw : Forward l) where
  pub ≼-forward : {t u : ℕ} → l ⊢ t ≼ u → t ≤ u
  ≼-forward (same e) = omega arith
  ≼-forward (step {p = p} {u = u} h m) = omega (arith, ≼-forward h, fw u p m)

  pub ≼-antisym : {t u : ℕ} → l ⊢ t ≼ u → l ⊢ u ≼ t → t ≡ u
  ≼-antisym h k = omega (arith, ≼-forward h, ≼-forward k)

  -- what `leq` computes
  pub leq-law : (t u : ℕ) → leq l t u ≡ (eqb t u || some (leq l t) (l.preds u))
  unfolding leq
  leq-law t u = along-law l fw false (λ v r. eqb t v || some r (l.preds v)) (λ v r s e. ap (λ b. eqb t v || b) (some-local (l.preds v) r s e)) u

  pub ≼→leq : {t u : ℕ} → l ⊢ t ≼ u → T (leq l t u)
  ≼→leq {t} {u} (same e) = rw (leq-law t u) (or_left (eqb t u) (some (leq l t) (l.preds u)) (eq→eqb t u e))
  ≼→leq {t} {u} (step {p = p} h m) = rw (leq-law t u) (or_right (eqb t u) (some (leq l t) (l.preds u)) (find (leq l t) (l.preds u) p m (≼→leq h)))

  pub leq→≼ : (t u : ℕ) → T (leq l t u) → l ⊢ t ≼ u
  leq→≼ t = smaller (λ u. T (leq l t u) → l ⊢ t ≼ u) (λ u f h. go u f (either (eqb t u) (some (leq l t) (l.preds u)) (rw (leq-law t u) at h)))
    where
      go : (u : ℕ) → ((p : ℕ) → p < u → T (leq l t p) → l ⊢ t ≼ p) → T (eqb t u) ⊎ T (some (leq l t) (l.preds u)) → l ⊢ t ≼ u
      go u f (inl h) = same (eqb→eq t u h)
      go u f (inr h) = let r = found (leq l t) (l.preds u) h in step (f r.0 (fw u r.0 r.1) r.2) r.1

  -- `leq` decides happens-before
  pub leq-decides : (t u : ℕ) → T (leq l t u) ↔ (l ⊢ t ≼ u)
  leq-decides t u = (leq→≼ t u, ≼→leq)

  -- so the test has the laws of the order
  pub leq-refl : (t : ℕ) → T (leq l t t)
  leq-refl t = ≼→leq (≼_refl l t)

  pub leq-trans : (t u v : ℕ) → T (leq l t u) → T (leq l u v) → T (leq l t v)
  leq-trans t u v h k = ≼→leq (≼_trans l (leq→≼ t u h) (leq→≼ u v k))

  pub leq-forward : (t u : ℕ) → T (leq l t u) → t ≤ u
  leq-forward t u h = ≼-forward (leq→≼ t u h)
