-- Laws of the search of the numbers below a bound. Assumes nothing.
use Prim.Native.Nat.{ℕ, zero, suc, ◌<◌}
use mathlib.Core.Path.{◌≡◌, subst}
use mathlib.Core.Logic.{◌≢◌, ◌⊎◌, inl, inr}
use mathlib.Core.Bool.{Bool, ◌||◌}
use native.Mathlib.Omega.{arith}
use lib.Dec.{T}
use Rattle.slices.proofs.Tests.{either, or_left, or_right, decide_eq}
use Rattle.coverage.specs.Below.{some}

pub found : (m : ℕ) (p : ℕ → Bool) → T (some m p) → (i : ℕ) × (i < m) × T (p i)
unfolding some
found zero p h = absurd h
found (suc m) p h = go (either (p m) (some m p) h) (found m p)
  where
    go : T (p m) ⊎ T (some m p) → (T (some m p) → (i : ℕ) × (i < m) × T (p i)) → (i : ℕ) × (i < suc m) × T (p i)
    go (inl h) f = (m, omega arith, h)
    go (inr h) f = let r = f h in (r.0, omega (arith, r.1), r.2)

pub find : (m : ℕ) (p : ℕ → Bool) (i : ℕ) → i < m → T (p i) → T (some m p)
unfolding some
find zero p i l h = absurd (omega arith)
find (suc m) p i l h = go (decide_eq i m) (find m p i)
  where
    go : (i ≡ m) ⊎ (i ≢ m) → (i < m → T (p i) → T (some m p)) → T (p m || some m p)
    go (inl e) f = or_left (p m) (some m p) (subst (λ (x : ℕ). T (p x)) e h)
    go (inr n) f = or_right (p m) (some m p) (f (omega arith) h)
