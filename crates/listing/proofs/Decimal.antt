-- Laws of `decimal`: its digits are ASCII digits and make n, the first is 0 only in 0, and a number below 10 ^ k has at most k.
-- Assumes nothing.
use Prim.Native.Nat.{ℕ, zero, suc, ◌+◌, ◌-◌, ◌*◌, ◌/◌, ◌%◌, ◌^◌, ◌≤◌, ◌<◌}
use mathlib.Core.Path.{◌≡◌, refl}
use mathlib.Core.Logic.{dite}
use mathlib.Core.List.{List, [], ◌∷◌, ◌++◌}
use native.Mathlib.Decide.{dec_lt}
use native.Mathlib.Omega.{arith}
use borrow.Author.Tests.{lt-ltb, le-ltb}
use lib.ListN.{length, get_or, length-append, get_or-append}
use Rattle.listing.specs.Lines.{digits, decimal}

-- what holds of a number below 10, and of one that isn't if it holds of its tenth, holds of all below k
below : (P : ℕ → Type 0) → ((n : ℕ) → n < 10 → P n) → ((n : ℕ) → 10 ≤ n → P (n / 10) → P n) → (k n : ℕ) → n < k → P n
below P one more zero n h = let f : ⊥ = omega arith in absurd f
below P one more (suc k) n h = go (below P one more k (n / 10))
  where
    go : (n / 10 < k → P (n / 10)) → P n
    go ih = dite (dec_lt n 10) (one n) (λ no. more n (omega (arith, no)) (ih (omega (arith, no))))

-- induction from a number's tenth to the number
pub by-tenths : (P : ℕ → Type 0) → ((n : ℕ) → n < 10 → P n) → ((n : ℕ) → 10 ≤ n → P (n / 10) → P n) → (n : ℕ) → P n
by-tenths P one more n = below P one more (suc n) n (omega arith)

digits-one : (k n : ℕ) → n < 10 → digits (suc k) n ≡ (48 + n) ∷ []
unfolding digits
digits-one k n h = simp (lt-ltb _ _ h)

digits_more : (k n : ℕ) → 10 ≤ n → digits (suc k) n ≡ digits k (n / 10) ++ (48 + n % 10) ∷ []
unfolding digits
digits_more k n h = simp (le-ltb _ _ h)

-- any count above the number serves
digits_same : (n k m : ℕ) → n < k → n < m → digits k n ≡ digits m n
digits_same =
    by-tenths (λ n. (k m : ℕ) → n < k → n < m → digits k n ≡ digits m n) first rest
  where
    first : (n : ℕ) → n < 10 → (k m : ℕ) → n < k → n < m → digits k n ≡ digits m n
    first n s zero m h l = let f : ⊥ = omega arith in absurd f
    first n s (suc k) zero h l = let f : ⊥ = omega arith in absurd f
    first n s (suc k) (suc m) h l = rw (digits-one k n s, digits-one m n s)

    rest : (n : ℕ) → 10 ≤ n → ((k m : ℕ) → n / 10 < k → n / 10 < m → digits k (n / 10) ≡ digits m (n / 10)) → (k m : ℕ) → n < k → n < m → digits k n ≡ digits m n
    rest n g ih zero m h l = let f : ⊥ = omega arith in absurd f
    rest n g ih (suc k) zero h l = let f : ⊥ = omega arith in absurd f
    rest n g ih (suc k) (suc m) h l = rw (digits_more k n g, digits_more m n g, ih k m (omega arith) (omega arith))

pub decimal-one : (n : ℕ) → n < 10 → decimal n ≡ (48 + n) ∷ []
unfolding decimal
decimal-one n h = digits-one n n h

pub decimal-more : (n : ℕ) → 10 ≤ n → decimal n ≡ decimal (n / 10) ++ (48 + n % 10) ∷ []
unfolding decimal
decimal-more n h = rw (digits_more n n h, digits_same (n / 10) n (suc (n / 10)) (omega arith) (omega arith))

pub length-one : (n : ℕ) → n < 10 → length (decimal n) ≡ 1
length-one n h = rw (decimal-one n h)

pub length_more : (n : ℕ) → 10 ≤ n → length (decimal n) ≡ length (decimal (n / 10)) + 1
length_more n h = rw (decimal-more n h) (length-append (decimal (n / 10)) _)

pub some-digit : (n : ℕ) → 0 < length (decimal n)
some-digit = by-tenths (λ n. 0 < length (decimal n)) (λ n h. omega (arith, length-one n h)) (λ n h ih. omega (arith, length_more n h))

-- a number below 10 ^ (k + 1) has at most k + 1 digits
pub digits-at-most : (k n : ℕ) → n < 10 ^ suc k → length (decimal n) ≤ suc k
digits-at-most zero n h = omega (arith, length-one n h)
digits-at-most (suc k) n h = go (digits-at-most k (n / 10))
  where
    go : (n / 10 < 10 ^ suc k → length (decimal (n / 10)) ≤ suc k) → length (decimal n) ≤ suc (suc k)
    go ih =
        dite (dec_lt n 10)
        (λ yes. omega (arith, length-one n yes))
        (λ no. omega (arith, length_more n (omega (arith, no)), ih (omega arith)))

pub twenty-digits : (n : ℕ) → n < 2 ^ 64 → length (decimal n) ≤ 20
twenty-digits n h = digits-at-most 19 n (omega arith)

-- the number that digits make after those that made v
abbrev pub value_from : ℕ → List ℕ → ℕ
value_from v [] = v
value_from v (d ∷ ds) = value_from (10 * v + (d - 48)) ds

value-append : (v : ℕ) (xs ys : List ℕ) → value_from v (xs ++ ys) ≡ value_from (value_from v xs) ys
value-append v [] ys = refl
value-append v (x ∷ xs) ys = value-append (10 * v + (x - 48)) xs ys

pub value-decimal : (n : ℕ) → value_from 0 (decimal n) ≡ n
value-decimal =
    by-tenths (λ n. value_from 0 (decimal n) ≡ n)
    (λ n h. rw (decimal-one n h) (omega arith))
    (λ n h ih. rw (decimal-more n h, value-append 0 (decimal (n / 10)) _, ih) (omega arith))

-- ASCII digits only
pub data Digits : List ℕ → Type 0 where
  none : Digits []
  more : {d : ℕ} {ds : List ℕ} → 48 ≤ d → d ≤ 57 → Digits ds → Digits (d ∷ ds)

digit : (d : ℕ) → d < 10 → Digits ((48 + d) ∷ [])
digit d h = more {d = 48 + d} (omega arith) (omega arith) none

digits_append : {xs ys : List ℕ} → Digits xs → Digits ys → Digits (xs ++ ys)
digits_append none t = t
digits_append (more l h s) t = more l h (digits_append s t)

pub only-digits : (n : ℕ) → Digits (decimal n)
only-digits =
    by-tenths (λ n. Digits (decimal n))
    (λ n h. rw (decimal-one n h) (digit n h))
    (λ n h ih. rw (decimal-more n h) (digits_append ih (digit (n % 10) (omega arith))))

-- no 0 stands first but in 0 itself
pub first-digit : (n : ℕ) → 0 < n → 48 < get_or (decimal n) 0 0
first-digit =
    by-tenths (λ n. 0 < n → 48 < get_or (decimal n) 0 0)
    (λ n h p. rw (decimal-one n h) (omega arith))
    (λ n h ih p. rw (decimal-more n h, get_or-append (decimal (n / 10)) ((48 + n % 10) ∷ []) 0 0 (some-digit (n / 10))) (ih (omega arith)))
