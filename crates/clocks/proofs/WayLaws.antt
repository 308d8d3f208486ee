-- What a reply says, by the tests that it is made of: x, both are the same; y, first before second; z, second before first. Assumes nothing.
use Prim.Native.Nat.{ℕ, ◌+◌, ◌*◌}
use mathlib.Core.Path.{◌≡◌, refl, ap}
use mathlib.Core.Bool.{Bool, true, false, not, ◌&&◌}
use mathlib.Core.List.{List}
use lib.Dec.{T, eqb, leb, eqb→eq, le→leb}
use lib.ListN.{get_or}
use native.Mathlib.Omega.{arith}
use Rattle.clocks.specs.Rows.{compare_in}
use Rattle.clocks.specs.WayRound.{way_round, relate_entries, relate_in, says_unordered, says_before}

pub says-before : (x y z : Bool) → (T x → T y) → says_before (way_round x y z) ≡ y
says-before true true z h = refl
says-before true false z h = absurd (h tt)
says-before false true z h = refl
says-before false false true h = refl
says-before false false false h = refl

-- where the second comes before the first only if both are the same
pub says-unordered : (x y z : Bool) → (T x → T y) → (T z → T x) → says_unordered (way_round x y z) ≡ not y
says-unordered true true z h k = refl
says-unordered true false z h k = absurd (h tt)
says-unordered false true z h k = refl
says-unordered false false true h k = absurd (k tt)
says-unordered false false false h k = refl

-- the reply by entries is that of their rows
implied : (x y : Bool) → (T x → T y) → (y && x) ≡ x
implied true true h = refl
implied true false h = absurd (h tt)
implied false true h = refl
implied false false h = refl

pub by_entries : (clocks : List ℕ) (width t c u d : ℕ)
    → relate_entries (eqb t u) (get_or clocks (t * width + c) 0) (get_or clocks (u * width + c) 0) (get_or clocks (u * width + d) 0) (get_or clocks (t * width + d) 0) ≡ relate_in clocks width t c u d
unfolding relate_entries relate_in compare_in
by_entries clocks width t c u d = rw (implied (eqb t u) (leb own there) equal) refl
  where
    own : ℕ
    own = get_or clocks (t * width + c) 0

    there : ℕ
    there = get_or clocks (u * width + c) 0

    equal : T (eqb t u) → T (leb own there)
    equal s = le→leb own there (omega (arith, ap (λ v. get_or clocks (v * width + c) 0) (eqb→eq t u s)))
