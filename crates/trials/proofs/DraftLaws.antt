-- A record written several times, turn by turn. Assumes nothing.
use Prim.Native.Nat.{ℕ, suc, ◌+◌, ◌-◌, ◌<◌, ◌≤◌, min}
use mathlib.Core.Path.{◌≡◌}
use mathlib.Core.List.{List}
use native.Mathlib.Omega.{arith}
use Rattle.records.specs.Encoding.{stored_within}
use Rattle.trials.specs.Draft.{put_in, after}

module _ (n k : ℕ) (rec bytes : List ℕ) (at : ℕ) where
  pub put-turn : k < n → put_in (n - k) rec bytes at ≡ put_in (n - (k + 1)) rec (stored_within bytes at rec) (min (at + 5) 18446744073709551615)
  unfolding put_in
  put-turn h = let e : n - k ≡ suc (n - (k + 1)) = omega arith in rw e

  pub put-over : n ≤ k → put_in (n - k) rec bytes at ≡ bytes
  unfolding put_in
  put-over h = let e : n - k ≡ 0 = omega arith in rw e

module _ (n k at : ℕ) where
  pub after-turn : k < n → after (n - k) at ≡ after (n - (k + 1)) (min (at + 5) 18446744073709551615)
  unfolding after
  after-turn h = let e : n - k ≡ suc (n - (k + 1)) = omega arith in rw e

  pub after-over : n ≤ k → after (n - k) at ≡ at
  unfolding after
  after-over h = let e : n - k ≡ 0 = omega arith in rw e
