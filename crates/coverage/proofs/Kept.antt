-- The kept records are an arrangement, with b and, where the race is open, without a.
use Prim.Native.Nat.{ℕ, suc, ◌≤◌, ◌<◌}
use mathlib.Core.Path.{◌≡◌, sym, subst}
use mathlib.Core.Logic.{◌≢◌, ◌⊎◌, inl, inr, ◌↔◌}
use mathlib.Core.Bool.{Bool}
use native.Mathlib.Omega.{arith}
use lib.Dec.{T}
use Rattle.coverage.specs.Below.{◌∈◌, ◌∉◌, upto}
use Rattle.coverage.specs.Setting.{Setting, Laws}
use Rattle.coverage.specs.Race.{before, Race}
use Rattle.coverage.specs.Cover.{Open}
use Rattle.coverage.specs.Arrangement.{Earlier, Last, Distinct, Arrangement}
use Rattle.coverage.specs.Leading.{Leads, leads, kept}
use Rattle.slices.proofs.Tests.{decide, decide_eq}
use Rattle.coverage.proofs.Lists.{last_snoc, in-upto, upto-in, upto-earlier, upto-distinct, upto-yes}
use Rattle.coverage.proofs.Order.{before-lt, before-le}
use Rattle.coverage.proofs.Leads.{leads-self, leads-below, leads-race, leads-ahead, leads-exact, open-iff}
use Rattle.coverage.proofs.Entries.{kept-grouped}

module _ (t : Setting) (b : ℕ) where
  abbrev test : ℕ → Bool
  test i = leads t b (t.ev i)

  pub in_kept : {x : ℕ} → x ∈ kept t b → (x < suc b) × T (leads t b (t.ev x))
  unfolding kept
  in_kept m = in-upto (suc b) test m

  pub kept_in : (x : ℕ) → x ≤ b → T (leads t b (t.ev x)) → x ∈ kept t b
  unfolding kept
  kept_in x l h = upto-in (suc b) test x (omega arith) h

  kept-earlier : (x y : ℕ) → x < y → y ≤ b → T (leads t b (t.ev x)) → T (leads t b (t.ev y)) → Earlier x y (kept t b)
  unfolding kept
  kept-earlier x y l k h g = upto-earlier (suc b) test x y l (omega arith) h g

module _ (t : Setting) (w : Laws t) (b : ℕ) (in-trace : b < t.size) where
  pub kept-has : b ∈ kept t b
  kept-has = kept_in t b b (omega arith) (leads-self t w b)

  kept_last : Last b (kept t b)
  unfolding kept
  kept_last = rw (upto-yes b (test t b) (leads-self t w b)) (last_snoc (upto b (test t b)) b)

  kept-ordered : (x y : ℕ) → x < t.size → T (before t x y) → y ∈ kept t b → Earlier x y (kept t b)
  kept-ordered x y l h m =
      let k = in_kept t b m in
      kept-earlier t b x y (before-lt t w x y l (omega (arith, k.0)) h) (omega (arith, k.0)) (leads-below t w b (t.ev x) (t.ev y) (before-le t w x y h) k.1) k.1

  kept-raced : (x y : ℕ) → Race t x y → y ∈ kept t b → Earlier x y (kept t b) ⊎ ((x ∉ kept t b) × Last y (kept t b))
  kept-raced x y r m = go (decide_eq y b) (decide (leads t b (t.ev x))) (in_kept t b m).0 (in_kept t b m).1
    where
      go : (y ≡ b) ⊎ (y ≢ b) → T (leads t b (t.ev x)) ⊎ (T (leads t b (t.ev x)) → ⊥) → y < suc b → T (leads t b (t.ev y)) → Earlier x y (kept t b) ⊎ ((x ∉ kept t b) × Last y (kept t b))
      go _ (inl h) l k = inl (kept-earlier t b x y r.first (omega arith) h k)
      go (inl e) (inr n) l k = inr (λ q. n (in_kept t b q).1, subst (λ (z : ℕ). Last z (kept t b)) (sym e) kept_last)
      go (inr d) (inr n) l k = absurd (n (leads-race t w b x y r (omega arith) k))

  kept-distinct : Distinct (kept t b)
  unfolding kept
  kept-distinct = upto-distinct (suc b) (test t b)

  pub kept-arrangement : Arrangement t (kept t b)
  kept-arrangement = record {
    inside = λ x m. omega (arith, (in_kept t b m).0);
    distinct = kept-distinct;
    grouped = kept-grouped t w b in-trace;
    ordered = kept-ordered;
    raced = kept-raced;
  }

  -- "keeps ev(b) up to b, and the whole of each other event action t from which happens-before and races lead to b", literally
  pub kept-iff : (x : ℕ) → (x ∈ kept t b) ↔ (((t.ev x ≡ t.ev b) × (x ≤ b)) ⊎ ((t.ev x ≢ t.ev b) × (x < t.size) × Leads t b (t.ev x)))
  kept-iff x = (λ m. to (in_kept t b m) (decide_eq (t.ev x) (t.ev b)), from)
    where
      to : (x < suc b) × T (leads t b (t.ev x)) → (t.ev x ≡ t.ev b) ⊎ (t.ev x ≢ t.ev b) → ((t.ev x ≡ t.ev b) × (x ≤ b)) ⊎ ((t.ev x ≢ t.ev b) × (x < t.size) × Leads t b (t.ev x))
      to h (inl e) = inl (e, omega (arith, h.0))
      to h (inr n) = inr (n, omega (arith, h.0), (leads-exact t w b (t.ev x)).0 h.1)

      from : ((t.ev x ≡ t.ev b) × (x ≤ b)) ⊎ ((t.ev x ≢ t.ev b) × (x < t.size) × Leads t b (t.ev x)) → x ∈ kept t b
      from (inl (e, l)) = kept_in t b x l (rw e (leads-self t w b))
      from (inr (n, l, h)) = let k = (leads-exact t w b (t.ev x)).1 h in kept_in t b x (omega (arith, leads-ahead t w b x in-trace l n k)) k

-- Of an open race, the kept records are an arrangement that holds the second and not the first
pub open-accesses : (t : Setting) → Laws t → (a b : ℕ) → Race t a b → Open t a b → Arrangement t (kept t b) × (b ∈ kept t b) × (a ∉ kept t b)
open-accesses t w a b r o = (kept-arrangement t w b r.inside, kept-has t w b r.inside, λ m. subst T ((open-iff t w a b r).1 o) (in_kept t b m).1)
