-- Bits in words of 64, and words taken into others bit by bit. Assumes nothing.
use Rattle.std.specs.Prelude.{ℕ, zero, suc, ◌+◌, ◌/◌, ◌%◌, ◌^◌, Bool, true, false, List, eqb, get_or, set}
use Rattle.std.specs.Int.Bits.{bit_or}

-- bit k of a word
unfoldable pub bit_at : ℕ → ℕ → Bool
bit_at w k = eqb (w / 2 ^ k % 2) 1

-- the word with bit k set
unfoldable pub with_bit : ℕ → ℕ → ℕ
with_bit w k = bit_or w (2 ^ k)

-- the word c places after b is taken into the one c places after a
unfoldable pub or_at : List ℕ → ℕ → ℕ → ℕ → List ℕ → List ℕ
or_at others a b c ws = set ws (a + c) (bit_or (get_or ws (a + c) 0) (get_or others (b + c) 0))

-- and so the k words from the c-th on, from the same words or from others
unfoldable pub or_from : ℕ → ℕ → ℕ → ℕ → List ℕ → List ℕ
or_from a b c zero ws = ws
or_from a b c (suc k) ws = or_from a b (suc c) k (or_at ws a b c ws)

unfoldable pub or_others : List ℕ → ℕ → ℕ → ℕ → ℕ → List ℕ → List ℕ
or_others others a b c zero ws = ws
or_others others a b c (suc k) ws = or_others others a b (suc c) k (or_at others a b c ws)

abbrev pub words_if : Bool → List ℕ → List ℕ → List ℕ
words_if true a b = a
words_if false a b = b
