-- A table of bits: is p in row u, for p ≤ u < 1,024? And four sets of numbers below 1,024. Assumes nothing.
use Rattle.std.specs.Prelude.{ℕ, ◌+◌, ◌*◌, ◌-◌, ◌/◌, ◌%◌, Bool, cond, ◌&&◌, List, leb, ltb, length, get_or, set}
use Rattle.bits.specs.Words.{bit_at, with_bit, or_from, or_others, words_if}

-- Row u holds bits 0 to u, so u / 64 + 1 words; rows u and 1,023 - u have 17 together, and 512 such pairs follow each other: 8,704 words.
unfoldable pub row_start : ℕ → ℕ
row_start u = cond (ltb u 512) (17 * u) (17 * (1023 - u) + (16 - u / 64))

abbrev pub in_table : ℕ → ℕ → Bool
in_table p u = leb p u && ltb u 1024

-- the word with bit p of row u
abbrev pub place : ℕ → ℕ → ℕ
place p u = row_start u + p / 64

-- is p in row u?
unfoldable pub bit_of : List ℕ → ℕ → ℕ → Bool
bit_of ws p u = in_table p u && bit_at (get_or ws (place p u) 0) (p % 64)

-- p enters row u
unfoldable pub put_bit : ℕ → ℕ → List ℕ → List ℕ
put_bit p u ws = words_if (in_table p u) (set ws (place p u) (with_bit (get_or ws (place p u) 0) (p % 64))) ws

-- row p is taken into row u, p before u
unfoldable pub or_row : ℕ → ℕ → List ℕ → List ℕ
or_row p u ws = words_if ((ltb p u && ltb u 1024) && leb 8704 (length ws)) (or_from (row_start u) (row_start p) 0 (p / 64 + 1) ws) ws

-- Four sets, one after another in 16 words each: is x in set l?
unfoldable pub member : List ℕ → ℕ → ℕ → Bool
member ws l x = (ltb l 4 && ltb x 1024) && bit_at (get_or ws (16 * l + x / 64) 0) (x % 64)

-- row x of a table is taken into set l
unfoldable pub or_set : List ℕ → ℕ → ℕ → List ℕ → List ℕ
or_set table l x ws =
    words_if ((ltb l 4 && ltb x 1024) && (leb 64 (length ws) && leb 8704 (length table))) (or_others table (16 * l) (row_start x) 0 (x / 64 + 1) ws) ws
