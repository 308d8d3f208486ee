-- A reply that gives something passed every test; a refused one failed one.
-- Assumes nothing.
use Prim.Native.Nat.{ℕ, zero, suc}
use mathlib.Core.Path.{◌≡◌, refl}
use mathlib.Core.Bool.{Bool, true, false}
use native.Mathlib.Omega.{arith}
use Rattle.trace.specs.Reply.{Reply, refused, gives, demand, or_else, then, unless}

module _ {A : Type 0} where
  -- no reply both gives something and is refused
  pub not-both : (a : A) (n p : ℕ) → gives a ≡ refused n p → ⊥
  not-both a n p e = let z : ◌≡◌ {A = ℕ} 0 1 = cc in omega arith

  pub same-given : {a b : A} → gives a ≡ gives b → a ≡ b
  same-given e = cc

  -- a reply that gives something passed the demand, and passed the record
  pub passed : (t : Bool) (n p : ℕ) (y : Reply A) (a : A) → gives a ≡ demand t n p y → (t ≡ true) × (gives a ≡ y)
  unfolding demand
  passed true n p y a e = (refl, e)
  passed false n p y a e = absurd (not-both a n p e)

  pub passed-record : (x p : ℕ) (y : Reply A) (a : A) → gives a ≡ or_else x p y → (x ≡ 0) × (gives a ≡ y)
  unfolding or_else
  passed-record zero p y a e = (refl, e)
  passed-record (suc x) p y a e = absurd (not-both a (suc x) p e)

  -- a fault is what is answered
  pub stops : (n p : ℕ) (y : Reply A) → (n ≡ 0 → ⊥) → refused n p ≡ or_else n p y
  unfolding or_else
  stops zero p y h = absurd (h refl)
  stops (suc n) p y h = refl

module _ {A B : Type 0} where
  -- what comes next gives something: so did the reply before it
  pub given_by : (x : Reply A) (f : A → Reply B) (b : B) → gives b ≡ then x f → (a : A) × (gives a ≡ x) × (gives b ≡ f a)
  unfolding then
  given_by (refused n p) f b e = absurd (not-both b n p e)
  given_by (gives a) f b e = (a, refl, e)

  -- by what a reply is
  pub then-given : {a : A} {x : Reply A} → gives a ≡ x → (f : A → Reply B) → then x f ≡ f a
  unfolding then
  then-given e f = rw (← e)

  pub unless-given : {a : A} {x : Reply A} → gives a ≡ x → (was : B) (f : A → B) → unless x was f ≡ f a
  unfolding unless
  unless-given e was f = rw (← e)
