-- Words taken into others, step by step. Assumes nothing.
use Prim.Native.Nat.{ℕ, suc, ◌+◌, ◌-◌, ◌≤◌, ◌<◌}
use mathlib.Core.Path.{◌≡◌}
use mathlib.Core.List.{List}
use native.Mathlib.Omega.{arith}
use lib.Bits.{bit_or}
use lib.ListN.{length, get_or, length-set}
use Rattle.bits.specs.Words.{or_at, or_from, or_others}

pub or-at-length : (others : List ℕ) (a b c : ℕ) (ws : List ℕ) → length (or_at others a b c ws) ≡ length ws
unfolding or_at
or-at-length others a b c ws = length-set ws (a + c) (bit_or (get_or ws (a + c) 0) (get_or others (b + c) 0))

module _ (a b c : ℕ) (ws : List ℕ) where
  pub from_next : (k : ℕ) → c < k → or_from a b c (k - c) ws ≡ or_from a b (c + 1) (k - (c + 1)) (or_at ws a b c ws)
  unfolding or_from
  from_next k h =
      let i : k - c ≡ suc (k - suc c) = omega arith in
      let j : c + 1 ≡ suc c = omega arith in
      rw (i, j)

  pub from-over : (k : ℕ) → k ≤ c → or_from a b c (k - c) ws ≡ ws
  unfolding or_from
  from-over k h = let i : k - c ≡ 0 = omega arith in rw i

module _ (others : List ℕ) (a b c : ℕ) (ws : List ℕ) where
  pub others-next : (k : ℕ) → c < k → or_others others a b c (k - c) ws ≡ or_others others a b (c + 1) (k - (c + 1)) (or_at others a b c ws)
  unfolding or_others
  others-next k h =
      let i : k - c ≡ suc (k - suc c) = omega arith in
      let j : c + 1 ≡ suc c = omega arith in
      rw (i, j)

  pub others-over : (k : ℕ) → k ≤ c → or_others others a b c (k - c) ws ≡ ws
  unfolding or_others
  others-over k h = let i : k - c ≡ 0 = omega arith in rw i
