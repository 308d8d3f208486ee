-- A record written several times. Assumes nothing.
use Rattle.std.specs.Prelude.{ℕ, zero, suc, ◌+◌, List, min}
use Rattle.records.specs.Encoding.{stored_within}

-- what is in the bytes, and the next position; each is written where it fits
unfoldable pub put_in : ℕ → List ℕ → List ℕ → ℕ → List ℕ
put_in zero rec bytes at = bytes
put_in (suc k) rec bytes at = put_in k rec (stored_within bytes at rec) (min (at + 5) 18446744073709551615)

unfoldable pub after : ℕ → ℕ → ℕ
after zero at = at
after (suc k) at = after k (min (at + 5) 18446744073709551615)
