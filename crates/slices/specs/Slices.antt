-- Slices as lists: zeros, and two bytes as a number. Definitions alone. Assumes nothing.
use Rattle.std.specs.Prelude.{ℕ, ◌+◌, ◌*◌, min, List, ◌++◌, length, get_or, drop, replicate}

-- an element that many times
unfoldable pub filled : {A : Type 0} → A → ℕ → List A
filled x n = replicate n x

-- that many zeros
abbrev pub zeros : ℕ → List ℕ
zeros n = filled 0 n

-- an element in that many places, as far as they are there, and the others as they were
unfoldable pub overwritten : {A : Type 0} → A → ℕ → List A → List A
overwritten x count l = replicate (min count (length l)) x ++ drop count l

-- zeros in that many places, as far as they are there, and the others as they were
abbrev pub cleared : ℕ → List ℕ → List ℕ
cleared count l = overwritten 0 count l

-- "fields are unsigned, low byte first": two bytes as a number
abbrev pub two_bytes : List ℕ → ℕ → ℕ
two_bytes b p = get_or b p 0 + 256 * get_or b (p + 1) 0
