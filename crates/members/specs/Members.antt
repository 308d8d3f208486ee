-- A set of event actions in bytes: event action t, in begin order from 0, is bit t % 8 of byte t ÷ 8. Assumes nothing.
use Rattle.std.specs.Prelude.{ℕ, zero, suc, ◌+◌, ◌/◌, ◌%◌, ◌^◌, min, Bool, cond, List, eqb, get_or, set}
use Rattle.std.specs.Int.Count as Count
use Rattle.bits.specs.Words.{bit_at, with_bit}

-- "One bit per event action": is t in the set? Past the bytes it is not.
unfoldable pub member : List ℕ → ℕ → Bool
member w t = bit_at (get_or w (t / 8) 0) (t % 8)

-- t enters the set; past the bytes nothing
unfoldable pub with_member : ℕ → List ℕ → List ℕ
with_member t w = set w (t / 8) (with_bit (get_or w (t / 8) 0) (t % 8))

-- "event actions ÷ 8 bytes, rounded up"
unfoldable pub bytes_for : ℕ → ℕ
bytes_for events = events / 8 + cond (eqb (events % 8) 0) 0 1

-- "counted from the set bits": the ones of the first n bytes, added; past the end there are none
unfoldable pub ones : List ℕ → ℕ → ℕ
ones w zero = 0
ones w (suc n) = ones w n + Count.ones (get_or w n 0)

-- the ones of 2 ^ 60 bytes fit in a number of 64 bits: no more bytes are counted
abbrev pub counted : ℕ → ℕ
counted n = min n (2 ^ 60)
