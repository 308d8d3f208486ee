-- Zeros, and elements set to 0 one after the other, of any width. Assumes nothing.
use Prim.Native.Nat.{ℕ, zero, suc, ◌+◌, ◌≤◌, ◌<◌, min}
use mathlib.Core.Path.{◌≡◌, refl, sym, ap, ◌∙◌}
use mathlib.Core.Logic.{◌⊎◌, inl, inr}
use mathlib.Core.List.{List, [], ◌∷◌, ◌++◌, append-nil}
use native.Mathlib.Omega.{arith}
use lib.ListN.{length, get_or, drop, replicate, set, length-replicate, get_or-replicate, drop_of_length-le, get_or-eq_default}
use Rattle.slices.specs.Slices.{filled, zeros, overwritten, cleared}
use Rattle.slices.proofs.Tests.{decide-lt}

pub zeros-length : (n : ℕ) → length (zeros n) ≡ n
unfolding filled
zeros-length n = length-replicate n 0

pub zeros-at : (n i : ℕ) → get_or (zeros n) i 0 ≡ 0
zeros-at n i = go (decide-lt i n)
  where
    go : (i < n) ⊎ (n ≤ i) → get_or (zeros n) i 0 ≡ 0
    go (inl h) = unfold filled in get_or-replicate {A = ℕ} n i 0 0 h
    go (inr h) = get_or-eq_default (zeros n) 0 {n = i} (omega (arith, zeros-length n))

drop_min : {A : Type 0} (n : ℕ) (l : List A) → drop (min n (length l)) l ≡ drop n l
drop_min n l = go (decide-lt n (length l))
  where
    go : (n < length l) ⊎ (length l ≤ n) → drop (min n (length l)) l ≡ drop n l
    go (inl h) = let e : min n (length l) ≡ n = omega arith in rw e refl
    go (inr h) = let e : length l ≤ min n (length l) = omega arith in drop_of_length-le l e ∙ sym (drop_of_length-le l h)

fill-suc : {A : Type 0} (n : ℕ) (x : A) (l : List A) → n < length l → set (replicate n x ++ drop n l) n x ≡ replicate (suc n) x ++ drop (suc n) l
fill-suc n x [] h = absurd (omega arith)
fill-suc zero x (y ∷ l) h = refl
fill-suc (suc n) x (y ∷ l) h = ap (λ r. x ∷ r) (fill-suc n x l (omega arith))

-- the first i elements are x; then one more is
pub overwritten-more : {A : Type 0} {x y : A} (l₀ : List A) {l : List A} {i : ℕ} →
    l ≡ replicate i x ++ drop i l₀ → y ≡ x → i < length l₀ → set l i y ≡ replicate (i + 1) x ++ drop (i + 1) l₀
overwritten-more {x = x} l₀ {i = i} e z h =
    let k : i + 1 ≡ suc i = omega arith in
    rw (e, z, k) (fill-suc i x l₀ h)

-- and at the end as many of the count as are there
pub overwritten-all : {A : Type 0} (x : A) (l₀ : List A) {l : List A} (count : ℕ) {i : ℕ} → l ≡ replicate i x ++ drop i l₀ → i ≡ min count (length l₀) → l ≡ overwritten x count l₀
unfolding overwritten
overwritten-all x l₀ count e m = e ∙ rw m (ap (λ r. replicate (min count (length l₀)) x ++ r) (drop_min count l₀))

-- as many as are there
pub cleared-within : {n : ℕ} (l : List ℕ) {l' : List ℕ} → n ≤ length l → l' ≡ cleared n l → l' ≡ replicate n 0 ++ drop n l
unfolding overwritten
cleared-within {n} l h e = let z : min n (length l) ≡ n = omega (arith, h) in rw z at e

-- all of them
pub cleared-whole : {n : ℕ} (l : List ℕ) {l' : List ℕ} → n ≡ length l → l' ≡ cleared n l → l' ≡ zeros n
unfolding filled
cleared-whole {n} l h e =
    cleared-within l (omega arith) e ∙ (ap (λ x. replicate n 0 ++ x) (drop_of_length-le l {i = n} (omega arith)) ∙ append-nil (replicate {A = ℕ} n 0))

-- as many elements as there are, or more
pub cleared-long : {n : ℕ} (l : List ℕ) {l' : List ℕ} → length l ≤ n → l' ≡ cleared n l → l' ≡ replicate (length l) 0
unfolding overwritten
cleared-long {n} l h e =
    let m : min n (length l) ≡ length l = omega arith in
    e ∙ rw (m, drop_of_length-le l {i = n} h) (append-nil (replicate (length l) 0))
