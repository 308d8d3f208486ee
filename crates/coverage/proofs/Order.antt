-- The record order and races, over a trace with its laws.
use Prim.Native.Nat.{ℕ, ◌<◌}
use mathlib.Core.Path.{◌≡◌, sym, ap, ◌∙◌, subst}
use mathlib.Core.Logic.{◌≢◌, ◌⊎◌, inl, inr}
use mathlib.Core.Bool.{Bool, true, false, cond}
use native.Mathlib.Omega.{arith}
use lib.Dec.{T, ltb, eqb, eqb→eq, ltb→lt, lt→ltb, T_not, not_T}
use Rattle.coverage.specs.Setting.{Setting, Laws}
use Rattle.coverage.specs.Race.{before, Race, raceb}
use Rattle.slices.proofs.Tests.{both, and, decide, decide_eq, eq→eqb}

-- both sides of a choice, by what the test says
chosen : (b x y : Bool) → T (cond b x y) → (T b × T x) ⊎ ((T b → ⊥) × T y)
chosen true x y h = inl (tt, h)
chosen false x y h = inr (λ k. k, h)

choose_yes : (b x y : Bool) → T b → T x → T (cond b x y)
choose_yes true x y h k = k
choose_yes false x y h k = absurd h

choose_no : (b x y : Bool) → (T b → ⊥) → T y → T (cond b x y)
choose_no true x y h k = absurd (h tt)
choose_no false x y h k = k

module _ (t : Setting) where
  pub before-cases : (a b : ℕ) → T (before t a b) → ((t.ev a ≡ t.ev b) × (a < b)) ⊎ ((t.ev a ≢ t.ev b) × T (t.le (t.ev a) (t.ev b)))
  unfolding before
  before-cases a b h = go (chosen (eqb (t.ev a) (t.ev b)) (ltb a b) (t.le (t.ev a) (t.ev b)) h)
    where
      go : (T (eqb (t.ev a) (t.ev b)) × T (ltb a b)) ⊎ ((T (eqb (t.ev a) (t.ev b)) → ⊥) × T (t.le (t.ev a) (t.ev b))) → ((t.ev a ≡ t.ev b) × (a < b)) ⊎ ((t.ev a ≢ t.ev b) × T (t.le (t.ev a) (t.ev b)))
      go (inl k) = inl (eqb→eq _ _ k.0, ltb→lt a b k.1)
      go (inr k) = inr (λ e. k.0 (eq→eqb _ _ e), k.1)

  -- an earlier record whose event action is at or below is before
  pub le-before : (a b : ℕ) → a < b → T (t.le (t.ev a) (t.ev b)) → T (before t a b)
  unfolding before
  le-before a b l h = go (decide (eqb (t.ev a) (t.ev b)))
    where
      go : T (eqb (t.ev a) (t.ev b)) ⊎ (T (eqb (t.ev a) (t.ev b)) → ⊥) → T (cond (eqb (t.ev a) (t.ev b)) (ltb a b) (t.le (t.ev a) (t.ev b)))
      go (inl e) = choose_yes (eqb (t.ev a) (t.ev b)) (ltb a b) _ e (lt→ltb a b l)
      go (inr n) = choose_no (eqb (t.ev a) (t.ev b)) (ltb a b) _ n h

  pub race-of : (a b : ℕ) → T (raceb t a b) → Race t a b
  unfolding raceb
  race-of a b h =
      let h₁ = both (ltb a b) _ h in
      let h₂ = both (ltb b t.size) _ h₁.1 in
      let h₃ = both (t.conf a b) _ h₂.1 in
      record { first = ltb→lt a b h₁.0; inside = ltb→lt b t.size h₂.0; conflict = h₃.0; unordered = T_not (before t a b) h₃.1 }

  pub of-race : (a b : ℕ) → Race t a b → T (raceb t a b)
  unfolding raceb
  of-race a b r = and (ltb a b) _ (lt→ltb a b r.first) (and (ltb b t.size) _ (lt→ltb b t.size r.inside) (and (t.conf a b) _ r.conflict (not_T (before t a b) r.unordered)))

module _ (t : Setting) (w : Laws t) where
  pub before-le : (a b : ℕ) → T (before t a b) → T (t.le (t.ev a) (t.ev b))
  before-le a b h = go (before-cases t a b h)
    where
      go : ((t.ev a ≡ t.ev b) × (a < b)) ⊎ ((t.ev a ≢ t.ev b) × T (t.le (t.ev a) (t.ev b))) → T (t.le (t.ev a) (t.ev b))
      go (inl k) = subst (λ (x : ℕ). T (t.le (t.ev a) x)) k.0 (w.le_refl (t.ev a))
      go (inr k) = k.1

  pub before-lt : (a b : ℕ) → a < t.size → b < t.size → T (before t a b) → a < b
  before-lt a b l k h = go (before-cases t a b h)
    where
      go : ((t.ev a ≡ t.ev b) × (a < b)) ⊎ ((t.ev a ≢ t.ev b) × T (t.le (t.ev a) (t.ev b))) → a < b
      go (inl k) = k.1
      go (inr n) = w.forward a b l k n.1 n.0

  pub race-not-le : (a b : ℕ) → Race t a b → T (t.le (t.ev a) (t.ev b)) → ⊥
  race-not-le a b r h = r.unordered (le-before t a b r.first h)

  pub race-apart : (a b : ℕ) → Race t a b → t.ev a ≢ t.ev b
  race-apart a b r e = race-not-le a b r (subst (λ (x : ℕ). T (t.le (t.ev a) x)) e (w.le_refl (t.ev a)))

  -- c and a later record d of another event action: d stands after all of c's event action
  pub after : (x c d : ℕ) → x < t.size → t.ev c ≡ t.ev x → c < d → t.ev c ≢ t.ev d → x < d
  after x c d l e m n = go (decide_eq x d)
    where
      go : (x ≡ d) ⊎ (x ≢ d) → x < d
      go (inl f) = absurd (n (e ∙ ap t.ev f))
      go (inr f) = let k : d < x → ⊥ = λ (g : d < x). n (sym (w.contiguous c d x m g l e)) in omega (arith, k)

  -- a race that starts at or above the event action of x ends after x
  pub race-after : (x c d : ℕ) → x < t.size → T (t.le (t.ev x) (t.ev c)) → Race t c d → x < d
  race-after x c d l h r = go (decide_eq (t.ev c) (t.ev x))
    where
      go : (t.ev c ≡ t.ev x) ⊎ (t.ev c ≢ t.ev x) → x < d
      go (inl e) = after x c d l e r.first (race-apart c d r)
      go (inr n) = let k : x < c = w.forward x c l (omega (arith, r.first, r.inside)) h (λ e. n (sym e)) in omega (arith, r.first)
