-- Laws of tests, of the order of numbers and of rising sequences, and induction over all smaller numbers. Assumes nothing.
use Prim.Native.Nat.{ℕ, zero, suc, ◌≤◌, ◌<◌}
use mathlib.Core.Path.{◌≡◌, refl, subst}
use mathlib.Core.Logic.{◌≢◌, ◌⊎◌, inl, inr}
use mathlib.Core.Bool.{Bool, true, false, ◌&&◌, ◌||◌}
use native.Mathlib.Omega.{arith}
use lib.Dec.{T, ltb, eqb, eqb→eq, eqb_refl, ltb→lt, lt→ltb}

pub both : (a b : Bool) → T (a && b) → T a × T b
both true b h = (tt, h)
both false b h = absurd h

pub and : (a b : Bool) → T a → T b → T (a && b)
and true b h k = k
and false b h k = h

pub either : (a b : Bool) → T (a || b) → T a ⊎ T b
either true b h = inl tt
either false b h = inr h

pub or_left : (a b : Bool) → T a → T (a || b)
or_left true b h = tt
or_left false b h = absurd h

pub or_right : (a b : Bool) → T b → T (a || b)
or_right true b h = tt
or_right false b h = h

pub decide : (a : Bool) → T a ⊎ (T a → ⊥)
decide true = inl tt
decide false = inr (λ h. h)

pub eq→eqb : (m n : ℕ) → m ≡ n → T (eqb m n)
eq→eqb m n e = subst (λ (x : ℕ). T (eqb m x)) e (eqb_refl m)

pub decide_eq : (m n : ℕ) → (m ≡ n) ⊎ (m ≢ n)
decide_eq m n = go (decide (eqb m n))
  where
    go : T (eqb m n) ⊎ (T (eqb m n) → ⊥) → (m ≡ n) ⊎ (m ≢ n)
    go (inl h) = inl (eqb→eq m n h)
    go (inr h) = inr (λ e. h (eq→eqb m n e))

pub passed : (a : Bool) → T a → a ≡ true
passed true h = refl
passed false h = absurd h

pub failed : (a : Bool) → (T a → ⊥) → a ≡ false
failed true h = absurd (h tt)
failed false h = refl

-- two tests that pass together are equal
pub same : (a b : Bool) → (T a → T b) → (T b → T a) → a ≡ b
same true true h k = refl
same true false h k = absurd (h tt)
same false true h k = absurd (k tt)
same false false h k = refl

pub decide-lt : (m n : ℕ) → (m < n) ⊎ (n ≤ m)
decide-lt m n = go (decide (ltb m n))
  where
    go : T (ltb m n) ⊎ (T (ltb m n) → ⊥) → (m < n) ⊎ (n ≤ m)
    go (inl h) = inl (ltb→lt m n h)
    go (inr h) = inr (let k : m < n → ⊥ = λ l. h (lt→ltb m n l) in omega (arith, k))

-- what holds of a number if it holds of all smaller ones holds of every number
pub smaller : (P : ℕ → Type 0) → ((n : ℕ) → ((m : ℕ) → m < n → P m) → P n) → (n : ℕ) → P n
smaller P f n = below (suc n) n (omega arith)
  where
    below : (k m : ℕ) → m < k → P m
    below zero m h = absurd (omega arith)
    below (suc k) m h = f m (λ j g. below k j (omega arith))

-- a sequence that never falls from one number to the next
pub rises : (f : ℕ → ℕ) → ((n : ℕ) → f n ≤ f (suc n)) → (m n : ℕ) → m ≤ n → f m ≤ f n
rises f up m zero h = let e : m ≡ 0 = omega arith in rw e (omega arith)
rises f up m (suc n) h = go (decide_eq m (suc n)) (rises f up m n)
  where
    go : (m ≡ suc n) ⊎ (m ≢ suc n) → (m ≤ n → f m ≤ f n) → f m ≤ f (suc n)
    go (inl e) g = rw e (omega arith)
    go (inr k) g = omega (arith, g (omega arith), up n)
