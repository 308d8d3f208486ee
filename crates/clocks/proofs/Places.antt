-- Places in lent clocks.
-- Assumes nothing.
use Prim.Native.Nat.{ℕ, ◌+◌, ◌*◌, ◌/◌, ◌<◌}
use mathlib.Core.Path.{◌≡◌, refl, sym}
use mathlib.Core.Bool.{Bool, true, false}
use native.Mathlib.Omega.{arith}
use native.Mathlib.Nat.{mul-le-mul_right, le_of_lt, le-div_iff_mul-le}
use borrow.Author.Tests.{le-leb, leb-true}
use lib.Dec.{leb}

-- a place in clocks, by 16-bit numbers, fits a machine word
pub place-fits : (t w c : ℕ) → t < 65536 → w < 65536 → c < 65536 → t * w + c < 18446744073709551616
place-fits t w c h k l =
    let p = mul-le-mul_right w (le_of_lt h) in
    omega arith

same : (a b : Bool) → (a ≡ true → b ≡ true) → (b ≡ true → a ≡ true) → a ≡ b
same true b f g = sym (f refl)
same false true f g = g refl
same false false f g = refl

-- that many rows fit exactly when they are at most the quotient
pub rows_fit : (width events space : ℕ) → 0 < width → leb events (space / width) ≡ leb (events * width) space
rows_fit width events space h =
    same (leb events (space / width)) (leb (events * width) space)
    (λ t. le-leb (events * width) space ((le-div_iff_mul-le h).0 (leb-true events (space / width) t)))
    (λ t. le-leb events (space / width) ((le-div_iff_mul-le h).1 (leb-true (events * width) space t)))
