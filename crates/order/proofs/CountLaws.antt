-- The first number that passes a test, and how many pass. Assumes nothing.
use Prim.Native.Nat.{ℕ, zero, suc, ◌+◌, ◌-◌, ◌≤◌, ◌<◌}
use mathlib.Core.Path.{◌≡◌, refl, sym, ap, ◌∙◌, subst}
use mathlib.Core.Logic.Iff
use mathlib.Core.Logic.{◌⊎◌, inl, inr, ◌↔◌}
use mathlib.Core.Bool.{Bool, true, false, cond}
use native.Mathlib.Omega.{arith}
use lib.Dec.{T}
use Rattle.order.specs.Chains.{first_from, first, count}
use Rattle.slices.proofs.Tests.{decide, decide_eq, passed, failed, decide-lt, rises}

-- c is the lowest number from i on and below n that passes, or n
pub record First (q : ℕ → Bool) (i n c : ℕ) : Type 0 where
  pub from : i ≤ c
  pub to : c ≤ n
  pub passes : c < n → T (q c)
  pub none : (j : ℕ) → i ≤ j → j < c → T (q j) → ⊥

-- where there is no number, where the lowest passes, and where it doesn't
pub first-end : (q : ℕ → Bool) (n : ℕ) → First q n n n
first-end q n = record { from = omega arith; to = omega arith; passes = λ h. absurd (omega arith); none = λ j a b h. absurd (omega arith) }

pub first-here : (q : ℕ → Bool) (i n : ℕ) → i ≤ n → T (q i) → First q i n i
first-here q i n g h = record { from = omega arith; to = g; passes = λ k. h; none = λ j a b k. absurd (omega arith) }

pub first_on : (q : ℕ → Bool) (i n c : ℕ) → (T (q i) → ⊥) → First q (suc i) n c → First q i n c
first_on q i n c h f = record { from = omega arith; to = f.to; passes = f.passes; none = none }
  where
    none : (j : ℕ) → i ≤ j → j < c → T (q j) → ⊥
    none j a b k = go (decide_eq i j)
      where
        go : (i ≡ j) ⊎ (i ≡ j → ⊥) → ⊥
        go (inl e) = h (subst (λ x. T (q x)) (sym e) k)
        go (inr n) = f.none j (omega arith) b k

pub first_from-first : (q : ℕ → Bool) (i k : ℕ) → First q i (i + k) (first_from q i k)
unfolding first_from
first_from-first q i zero = let e : i + 0 ≡ i = omega arith in rw e (first-end q i)
first_from-first q i (suc k) = go (decide (q i)) (first_from-first q (suc i) k)
  where
    go : T (q i) ⊎ (T (q i) → ⊥) → First q (suc i) (suc i + k) (first_from q (suc i) k) → First q i (i + suc k) (cond (q i) i (first_from q (suc i) k))
    go (inl h) f = rw (passed (q i) h) (first-here q i (i + suc k) (omega arith) h)
    go (inr h) f = let e : i + suc k ≡ suc i + k = omega arith in rw (failed (q i) h, e) (first_on q i (suc i + k) _ h f)

pub first-first : (q : ℕ → Bool) (n : ℕ) → First q 0 n (first q n)
first-first q n = let e : 0 + n ≡ n = omega arith in subst (λ x. First q 0 x (first q n)) e (first_from-first q 0 n)

-- there is one such number, and tests that agree have the same
pub first_one : (q r : ℕ → Bool) (n c d : ℕ) → ((j : ℕ) → j < n → T (q j) ↔ T (r j)) → First q 0 n c → First r 0 n d → c ≡ d
first_one q r n c d same f g = go (decide-lt c d) (decide-lt d c)
  where
    go : (c < d) ⊎ (d ≤ c) → (d < c) ⊎ (c ≤ d) → c ≡ d
    go (inl h) k = let i : c < n = omega (arith, g.to) in absurd (g.none c (omega arith) h ((same c i).0 (f.passes i)))
    go (inr h) (inl k) = let i : d < n = omega (arith, f.to) in absurd (f.none d (omega arith) k ((same d i).1 (g.passes i)))
    go (inr h) (inr k) = omega arith

pub first-only : (q : ℕ → Bool) (n c d : ℕ) → First q 0 n c → First q 0 n d → c ≡ d
first-only q n c d = first_one q q n c d (λ j h. Iff.rfl)

-- a search depends on the numbers searched alone
pub first_from-local : (q r : ℕ → Bool) (i k : ℕ) → ((j : ℕ) → i ≤ j → j < i + k → q j ≡ r j) → first_from q i k ≡ first_from r i k
unfolding first_from
first_from-local q r i zero e = refl
first_from-local q r i (suc k) e =
    rw (e i (omega arith) (omega arith)) (ap (cond (r i) i) (first_from-local q r (suc i) k (λ j a b. e j (omega arith) (omega arith))))

-- a search as a loop makes it, from i up to n
module _ (q : ℕ → Bool) (i n : ℕ) where
  pub first-hit : i < n → q i ≡ true → first_from q i (n - i) ≡ i
  unfolding first_from
  first-hit h e = let k : n - i ≡ suc (n - suc i) = omega arith in rw (k, e)

  pub first-miss : i < n → q i ≡ false → first_from q i (n - i) ≡ first_from q (i + 1) (n - (i + 1))
  unfolding first_from
  first-miss h e =
      let k : n - i ≡ suc (n - suc i) = omega arith in
      let j : i + 1 ≡ suc i = omega arith in
      rw (k, e, j)

  pub first-over : n ≤ i → first_from q i (n - i) ≡ i
  unfolding first_from
  first-over h = let k : n - i ≡ 0 = omega arith in rw k

-- past k numbers that do not pass
pub first_past : (q : ℕ → Bool) (n k i : ℕ) → i + k ≤ n → ((j : ℕ) → j < k → q (i + j) ≡ false) → first_from q i (n - i) ≡ first_from q (i + k) (n - (i + k))
first_past q n zero i h f = let e : i + 0 ≡ i = omega arith in rw e
first_past q n (suc k) i h f =
    let a : i + 0 ≡ i = omega arith in
    let e : i + suc k ≡ (i + 1) + k = omega arith in
    first-miss q i n (omega arith) (rw a at (f 0 (omega arith)))
    ∙ rw e (first_past q n k (i + 1) (omega arith) (λ j g. let s : (i + 1) + j ≡ i + suc j = omega arith in rw s (f (suc j) (omega arith))))

-- counting

pub count_yes : (q : ℕ → Bool) (n : ℕ) → T (q n) → count q (suc n) ≡ suc (count q n)
unfolding count
count_yes q n h = rw (passed (q n) h) (omega arith)

count_no : (q : ℕ → Bool) (n : ℕ) → (T (q n) → ⊥) → count q (suc n) ≡ count q n
unfolding count
count_no q n h = rw (failed (q n) h) (omega arith)

pub count-zero : (q : ℕ → Bool) → count q 0 ≡ 0
unfolding count
count-zero q = refl

pub count-le : (q : ℕ → Bool) (n : ℕ) → count q n ≤ n
count-le q zero = omega (arith, count-zero q)
count-le q (suc n) = go (decide (q n)) (count-le q n)
  where
    go : T (q n) ⊎ (T (q n) → ⊥) → count q n ≤ n → count q (suc n) ≤ suc n
    go (inl h) k = omega (arith, count_yes q n h)
    go (inr h) k = omega (arith, count_no q n h)

count-up : (q : ℕ → Bool) (n : ℕ) → count q n ≤ count q (suc n)
unfolding count
count-up q n = omega arith

count-weaker : (q r : ℕ → Bool) (n : ℕ) → ((s : ℕ) → s < n → T (q s) → T (r s)) → count q n ≤ count r n
count-weaker q r zero f = omega (arith, count-zero q)
count-weaker q r (suc n) f = go (decide (q n)) (count-weaker q r n (λ s g. f s (omega arith)))
  where
    go : T (q n) ⊎ (T (q n) → ⊥) → count q n ≤ count r n → count q (suc n) ≤ count r (suc n)
    go (inl h) k = omega (arith, count_yes q n h, count_yes r n (f n (omega arith) h))
    go (inr h) k = omega (arith, count_no q n h, count-up r n)

-- where all that pass one test pass another, below its bound
pub count-mono : (q r : ℕ → Bool) (n k : ℕ) → ((s : ℕ) → s < n → T (q s) → (s < k) × T (r s)) → count q n ≤ count r k
count-mono q r zero k f = omega (arith, count-zero q)
count-mono q r (suc n) k f = go (decide (q n)) (count-mono q r n k (λ s g. f s (omega arith)))
  where
    go : T (q n) ⊎ (T (q n) → ⊥) → count q n ≤ count r k → count q (suc n) ≤ count r k
    go (inl h) i =
        let g = f n (omega arith) h in
        let a = count-weaker q r n (λ s a b. (f s (omega arith) b).1) in
        let b = rises (count r) (count-up r) (suc n) k g.0 in
        omega (arith, count_yes q n h, count_yes r n g.1)
    go (inr h) i = omega (arith, count_no q n h)

-- one more passes the second test
pub count_less : (q r : ℕ → Bool) (n t : ℕ) → t < n → T (r t) → (T (q t) → ⊥) → ((s : ℕ) → s < n → T (q s) → T (r s)) → count q n < count r n
count_less q r zero t g h k f = absurd (omega arith)
count_less q r (suc n) t g h k f = go (decide_eq t n) (decide (q n)) (λ i. count_less q r n t i h k (λ s a. f s (omega arith)))
  where
    weak : count q n ≤ count r n
    weak = count-weaker q r n (λ s a. f s (omega arith))

    go : (t ≡ n) ⊎ (t ≡ n → ⊥) → T (q n) ⊎ (T (q n) → ⊥) → (t < n → count q n < count r n) → count q (suc n) < count r (suc n)
    go (inl e) d i = omega (arith, count_no q n (subst (λ x. T (q x) → ⊥) e k), count_yes r n (subst (λ x. T (r x)) e h), weak)
    go (inr e) (inl d) i = omega (arith, count_yes q n d, count_yes r n (f n (omega arith) d), i (omega arith))
    go (inr e) (inr d) i = omega (arith, count_no q n d, count-up r n, i (omega arith))

pub count_none : (q : ℕ → Bool) (n : ℕ) → ((s : ℕ) → s < n → T (q s) → ⊥) → count q n ≡ 0
count_none q zero f = count-zero q
count_none q (suc n) f = omega (arith, count_no q n (f n (omega arith)), count_none q n (λ s a. f s (omega arith)))

-- none passes, or there is a last that passes
abbrev pub Last : (ℕ → Bool) → ℕ → Type 0
Last q n = (count q n ≡ 0) ⊎ ((t : ℕ) × (t < n) × T (q t) × (count q n ≡ count q (suc t)))

pub count-last : (q : ℕ → Bool) (n : ℕ) → Last q n
count-last q zero = inl (count-zero q)
count-last q (suc n) = go (decide (q n)) (count-last q n)
  where
    go : T (q n) ⊎ (T (q n) → ⊥) → Last q n → Last q (suc n)
    go (inl h) i = inr (n, omega arith, h, refl)
    go (inr h) (inl i) = inl (omega (arith, count_no q n h))
    go (inr h) (inr i) = inr (i.0, omega (arith, i.1), i.2, omega (arith, i.3, count_no q n h))
