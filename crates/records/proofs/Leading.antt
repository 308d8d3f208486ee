-- The accesses from a position on.
-- Assumes nothing.
use Prim.Native.Nat.{ℕ, zero, suc, ◌+◌, ◌-◌, ◌≤◌, ◌<◌}
use mathlib.Core.Path.{◌≡◌, refl, sym, ap, ◌∙◌}
use mathlib.Core.List.{List}
use mathlib.Core.Logic.{◌⊎◌, inl, inr}
use native.Mathlib.Omega.{arith}
use native.Mathlib.Decide.{ℕ_discrete}
use borrow.Author.Tests.{le-leb, lt-leb}
use Rattle.records.specs.declared.Record.{Record}
use Rattle.records.specs.Records.{at, leading}
use Rattle.records.proofs.Positions.{lt-or-ge}

module _ (tr : List Record) where
  leading-zero : (i : ℕ) → leading tr 0 i ≡ 0
  unfolding leading
  leading-zero i = refl

  leading-here : (k i : ℕ) → (at tr i).kind < 5 → leading tr (suc k) i ≡ 0
  unfolding leading
  leading-here k i h = rw (lt-leb 5 (at tr i).kind h)

  leading-on : (k i : ℕ) → 5 ≤ (at tr i).kind → leading tr (suc k) i ≡ suc (leading tr k (suc i))
  unfolding leading
  leading-on k i h = rw (le-leb 5 (at tr i).kind h)

  pub leading_le : (k i : ℕ) → leading tr k i ≤ k
  leading_le zero i = omega (arith, leading-zero i)
  leading_le (suc k) i = go (lt-or-ge (at tr i).kind 5) (leading_le k (suc i))
    where
      go : ((at tr i).kind < 5) ⊎ (5 ≤ (at tr i).kind) → leading tr k (suc i) ≤ k → leading tr (suc k) i ≤ suc k
      go (inl h) f = omega (arith, leading-here k i h)
      go (inr h) f = omega (arith, leading-on k i h)

  -- those passed are accesses
  pub leading-accesses : (k i j : ℕ) → i ≤ j → j < i + leading tr k i → 5 ≤ (at tr j).kind
  leading-accesses zero i j g h = absurd (omega (arith, leading-zero i))
  leading-accesses (suc k) i j g h = go (lt-or-ge (at tr i).kind 5) (ℕ_discrete j i) (leading-accesses k (suc i) j)
    where
      go : ((at tr i).kind < 5) ⊎ (5 ≤ (at tr i).kind) → Dec (j ≡ i) → (suc i ≤ j → j < suc i + leading tr k (suc i) → 5 ≤ (at tr j).kind) → 5 ≤ (at tr j).kind
      go (inl x) d f = absurd (omega (arith, leading-here k i x))
      go (inr x) (yes e) f = rw e x
      go (inr x) (no n) f = f (omega arith) (omega (arith, leading-on k i x))

  -- and the next is none
  pub leading-stops : (k i : ℕ) → leading tr k i < k → (at tr (i + leading tr k i)).kind < 5
  leading-stops zero i h = absurd (omega arith)
  leading-stops (suc k) i h = go (lt-or-ge (at tr i).kind 5) (leading-stops k (suc i))
    where
      go : ((at tr i).kind < 5) ⊎ (5 ≤ (at tr i).kind) → (leading tr k (suc i) < k → (at tr (suc i + leading tr k (suc i))).kind < 5) → (at tr (i + leading tr (suc k) i)).kind < 5
      go (inl x) f = let e : i + leading tr (suc k) i ≡ i = omega (arith, leading-here k i x) in rw e x
      go (inr x) f =
          let l = leading-on k i x in
          let e : i + leading tr (suc k) i ≡ suc i + leading tr k (suc i) = omega arith in
          rw e (f (omega arith))

  -- the first k of them, and the rest
  pub leading-short : (m k i : ℕ) → leading tr k i < k → leading tr (k + m) i ≡ leading tr k i
  leading-short m zero i h = absurd (omega arith)
  leading-short m (suc k) i h = let s : suc k + m ≡ suc (k + m) = omega arith in rw s (go (lt-or-ge (at tr i).kind 5) (leading-short m k (suc i)))
    where
      go : ((at tr i).kind < 5) ⊎ (5 ≤ (at tr i).kind) → (leading tr k (suc i) < k → leading tr (k + m) (suc i) ≡ leading tr k (suc i)) → leading tr (suc (k + m)) i ≡ leading tr (suc k) i
      go (inl x) f = leading-here (k + m) i x ∙ sym (leading-here k i x)
      go (inr x) f = leading-on (k + m) i x ∙ (ap suc (f (omega (arith, leading-on k i x))) ∙ sym (leading-on k i x))

  pub leading-long : (m k i : ℕ) → leading tr k i ≡ k → leading tr (k + m) i ≡ k + leading tr m (i + k)
  leading-long m zero i h =
      let a : 0 + m ≡ m = omega arith in
      let b : i + 0 ≡ i = omega arith in
      rw (a, b) (omega arith)
  leading-long m (suc k) i h =
      let s : suc k + m ≡ suc (k + m) = omega arith in
      let t : i + suc k ≡ suc i + k = omega arith in
      rw (s, t) (go (lt-or-ge (at tr i).kind 5) (leading-long m k (suc i)))
    where
      go : ((at tr i).kind < 5) ⊎ (5 ≤ (at tr i).kind) → (leading tr k (suc i) ≡ k → leading tr (k + m) (suc i) ≡ k + leading tr m (suc i + k)) → leading tr (suc (k + m)) i ≡ suc k + leading tr m (suc i + k)
      go (inl x) f = absurd (omega (arith, leading-here k i x))
      go (inr x) f = omega (arith, leading-on (k + m) i x, f (omega (arith, leading-on k i x)))

  -- four of them, tested one by one
  module _ (i : ℕ) where
    one : i + 1 ≡ suc i
    one = omega arith

    two : i + 2 ≡ suc (suc i)
    two = omega arith

    three : i + 3 ≡ suc (suc (suc i))
    three = omega arith

    pub four-0 : (at tr i).kind < 5 → leading tr 4 i ≡ 0
    four-0 a = leading-here 3 i a

    module _ (a : 5 ≤ (at tr i).kind) where
      pub four-1 : (at tr (i + 1)).kind < 5 → leading tr 4 i ≡ 1
      four-1 b = leading-on 3 i a ∙ ap suc (leading-here 2 (suc i) (rw one at b))

      module _ (b : 5 ≤ (at tr (i + 1)).kind) where
        pub four-2 : (at tr (i + 2)).kind < 5 → leading tr 4 i ≡ 2
        four-2 c = leading-on 3 i a ∙ ap suc (leading-on 2 (suc i) (rw one at b) ∙ ap suc (leading-here 1 (suc (suc i)) (rw two at c)))

        module _ (c : 5 ≤ (at tr (i + 2)).kind) where
          pub four-3 : (at tr (i + 3)).kind < 5 → leading tr 4 i ≡ 3
          four-3 d = leading-on 3 i a ∙ ap suc (leading-on 2 (suc i) (rw one at b) ∙ ap suc (leading-on 1 (suc (suc i)) (rw two at c) ∙ ap suc (leading-here 0 (suc (suc (suc i))) (rw three at d))))

          pub four-4 : 5 ≤ (at tr (i + 3)).kind → leading tr 4 i ≡ 4
          four-4 d = leading-on 3 i a ∙ ap suc (leading-on 2 (suc i) (rw one at b) ∙ ap suc (leading-on 1 (suc (suc i)) (rw two at c) ∙ ap suc (leading-on 0 (suc (suc (suc i))) (rw three at d) ∙ ap suc (leading-zero (suc (suc (suc (suc i))))))))

  -- as a loop makes it, from i up to n
  module _ (n i : ℕ) where
    pub leading-over : n ≤ i → i + leading tr (n - i) i ≡ i
    leading-over h = let e : n - i ≡ 0 = omega arith in rw e (omega (arith, leading-zero i))

    pub leading-hit : i < n → (at tr i).kind < 5 → i + leading tr (n - i) i ≡ i
    leading-hit h x = let e : n - i ≡ suc (n - suc i) = omega arith in rw e (omega (arith, leading-here (n - suc i) i x))

    pub leading-miss : i < n → 5 ≤ (at tr i).kind → i + leading tr (n - i) i ≡ (i + 1) + leading tr (n - (i + 1)) (i + 1)
    leading-miss h x =
        let e : n - i ≡ suc (n - suc i) = omega arith in
        let j : i + 1 ≡ suc i = omega arith in
        rw (e, j) (omega (arith, leading-on (n - suc i) i x))

    pub leading-four : i + 4 ≤ n → leading tr 4 i < 4 → i + leading tr (n - i) i ≡ i + leading tr 4 i
    leading-four h x = let e : n - i ≡ 4 + (n - i - 4) = omega arith in rw e (omega (arith, leading-short (n - i - 4) 4 i x))

    pub leading-next : i + 4 ≤ n → 4 ≤ leading tr 4 i → i + leading tr (n - i) i ≡ (i + 4) + leading tr (n - (i + 4)) (i + 4)
    leading-next h x =
        let e : n - i ≡ 4 + (n - (i + 4)) = omega arith in
        rw e (omega (arith, leading-long (n - (i + 4)) 4 i (omega (arith, leading_le 4 i))))
