-- The lines that the trace program prints, as lists of ASCII bytes, and what it is to print one into lent bytes.
-- Assumes nothing: these are definitions.
use Rattle.std.specs.Prelude.{ℕ, zero, suc, ◌+◌, ◌/◌, ◌%◌, cond, ◌≡◌, List, [], ◌∷◌, ◌++◌, leb, ltb, eqb, length, take, drop}
use Prim.Native.Char.{code}
use Prim.Native.String.{String, [] as empty, ◌∷◌ as ◌then◌}

-- The bytes of a text.
unfoldable pub ascii : String → List ℕ
ascii empty = []
ascii (c then rest) = code c ∷ ascii rest

-- The digits of n / 10 and then the last digit of n, down to a number of one digit; the first argument bounds how many.
unfoldable pub digits : ℕ → ℕ → List ℕ
digits zero n = []
digits (suc k) n =
    let more = digits k (n / 10) ++ (48 + n % 10) ∷ [] in
    cond (ltb n 10) ((48 + n) ∷ []) more

-- The ASCII digits of n, as in `events 3 records 12 chains 2 pairs 2`: "decimal unless marked hex", and no 0 stands first but in 0 itself.
unfoldable pub decimal : ℕ → List ℕ
decimal n = digits (suc n) n

-- "One space parts fields; each line ends with byte hex 0A."
unfoldable pub line : List (List ℕ) → List ℕ
line [] = 0x0A ∷ []
line (field ∷ []) = field ++ 0x0A ∷ []
line (field ∷ next ∷ fields) = field ++ 0x20 ∷ line (next ∷ fields)

-- "shape (ww, wr or rw, first access then second)": 1 is ww, 2 is wr, any other number rw.
unfoldable pub shape_word : ℕ → List ℕ
shape_word shape = cond (eqb shape 1) (ascii "ww") (cond (eqb shape 2) (ascii "wr") (ascii "rw"))

-- "mark (open or covered)": 1 is open, any other number covered.
unfoldable pub mark_word : ℕ → List ℕ
mark_word mark = cond (eqb mark 1) (ascii "open") (ascii "covered")

-- "prints one header line (number of begins, of records, of chains used, of short-list entries)": `events 3 records 12 chains 2 pairs 2`
unfoldable pub header_line : ℕ → ℕ → ℕ → ℕ → List ℕ
header_line events records chains pairs =
    line (ascii "events" ∷ decimal events ∷ ascii "records" ∷ decimal records ∷ ascii "chains" ∷ decimal chains ∷ ascii "pairs" ∷ decimal pairs ∷ [])

-- "then the short list: first, second, cell, shape (ww, wr or rw, first access then second), mark (open or covered)."
unfoldable pub pair_line : ℕ → ℕ → ℕ → ℕ → ℕ → List ℕ
pair_line first second cell shape mark =
    line (decimal first ∷ decimal second ∷ decimal cell ∷ shape_word shape ∷ mark_word mark ∷ [])

-- "A refusal prints one line only: `refused`, number, place."
unfoldable pub refused_line : ℕ → ℕ → List ℕ
refused_line number place = line (ascii "refused" ∷ decimal number ∷ decimal place ∷ [])

-- The bytes s, with those of a line at at where all of them fit; else s.
unfoldable pub put_at : List ℕ → ℕ → List ℕ → List ℕ
put_at s at bytes = cond (leb (at + length bytes) (length s)) (take at s ++ bytes ++ drop (at + length bytes) s) s

-- The position after the line where it fits; else at.
unfoldable pub after_line : List ℕ → ℕ → List ℕ → ℕ
after_line s at bytes = cond (leb (at + length bytes) (length s)) (at + length bytes) at

-- A line is printed at at: from the bytes s to s', with the answer r.
pub record Printed (s : List ℕ) (at : ℕ) (bytes s' : List ℕ) (r : ℕ) : Type 0 where
  pub contents : s' ≡ put_at s at bytes
  pub answer : r ≡ after_line s at bytes
