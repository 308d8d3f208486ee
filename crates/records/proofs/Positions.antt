-- A record among those before a position is a record at an earlier position.
-- Assumes nothing.
use Prim.Native.Nat.{ℕ, zero, suc, ◌<◌, ◌≤◌}
use mathlib.Core.Path.{◌≡◌, refl, sym, ◌∙◌}
use mathlib.Core.Bool.{Bool, true, false, ◌&&◌, ◌||◌, and-eq-true_iff}
use mathlib.Core.List.{List}
use mathlib.Core.Logic.{◌⊎◌, inl, inr}
use native.Mathlib.Omega.{arith}
use native.Mathlib.Decide.{dec_lt}
use native.Mathlib.Nat.{not-suc-le-zero, eq-or-lt_of_le, le_of_suc-le-suc}
use borrow.Author.Tests.{eq-eqb, eqb-true}
use lib.Dec.{eqb}
use Rattle.records.specs.declared.Record.{Record}
use Rattle.records.specs.Records.{at, past, has}

-- a Bool is true or false
pub decide : (b : Bool) → (b ≡ true) ⊎ (b ≡ false)
decide true = inl refl
decide false = inr refl

pub lt-or-ge : (m n : ℕ) → (m < n) ⊎ (n ≤ m)
lt-or-ge m n = go (dec_lt m n)
  where
    go : Dec (m < n) → (m < n) ⊎ (n ≤ m)
    go (yes h) = inl h
    go (no h) = inr (omega arith)

pub true-not-false : {b : Bool} → b ≡ true → b ≡ false → ⊥
true-not-false {b} t f = let z : true ≡ false = sym t ∙ f in let o : ◌≡◌ {A = ℕ} 0 1 = cc in omega arith

pub or_cases : (a b : Bool) → (a || b) ≡ true → (a ≡ true) ⊎ (b ≡ true)
or_cases true b h = inl refl
or_cases false b h = inr h

pub or-first : (a b : Bool) → a ≡ true → (a || b) ≡ true
or-first a b h = rw h

pub or-second : (a b : Bool) → b ≡ true → (a || b) ≡ true
or-second true b h = refl
or-second false b h = h

module _ (tr : List Record) (test : Record → Bool) (e : ℕ) where
  pub record Found (i : ℕ) : Type 0 where
    pub at_position : ℕ
    pub earlier : at_position < i
    pub passes : test (at tr at_position) ≡ true
    pub event : (at tr at_position).first ≡ e

  pub has-found : (i : ℕ) → has test e (past tr i) ≡ true → Found i
  unfolding has past
  has-found zero h = let z : ◌≡◌ {A = ℕ} 0 1 = cc in absurd (omega arith)
  has-found (suc i) h = go (or_cases (test (at tr i) && eqb (at tr i).first e) (has test e (past tr i)) h) (has-found i)
    where
      go : ((test (at tr i) && eqb (at tr i).first e) ≡ true) ⊎ (has test e (past tr i) ≡ true) → (has test e (past tr i) ≡ true → Found i) → Found (suc i)
      go (inl k) f =
          let p = (and-eq-true_iff (test (at tr i)) (eqb (at tr i).first e)).0 k in
          record { at_position = i; earlier = omega arith; passes = p.0; event = eqb-true (at tr i).first e p.1 }
      go (inr k) f =
          let g = f k in
          let l = g.earlier in
          record { at_position = g.at_position; earlier = omega arith; passes = g.passes; event = g.event }

  pub has-intro : (i j : ℕ) → j < i → test (at tr j) ≡ true → (at tr j).first ≡ e → has test e (past tr i) ≡ true
  unfolding has past
  has-intro zero j l p q = absurd (not-suc-le-zero l)
  has-intro (suc i) j l p q = go (eq-or-lt_of_le (le_of_suc-le-suc l)) (has-intro i j)
    where
      go : (j ≡ i) ⊎ (j < i) → (j < i → test (at tr j) ≡ true → (at tr j).first ≡ e → has test e (past tr i) ≡ true) → (test (at tr i) && eqb (at tr i).first e || has test e (past tr i)) ≡ true
      go (inl k) f = or-first (test (at tr i) && eqb (at tr i).first e) (has test e (past tr i)) (rw (← k) ((and-eq-true_iff (test (at tr j)) (eqb (at tr j).first e)).1 (p, eq-eqb _ _ q)))
      go (inr k) f = or-second (test (at tr i) && eqb (at tr i).first e) (has test e (past tr i)) (f k p q)

  pub has-later : (i j : ℕ) → i ≤ j → has test e (past tr i) ≡ true → has test e (past tr j) ≡ true
  has-later i j l h =
      let f = has-found i h in
      let k = f.earlier in
      has-intro j f.at_position (omega arith) f.passes f.event
