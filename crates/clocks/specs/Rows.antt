-- Clock rows in lent clocks: "A clock row has one 16-bit entry per chain, one row after another in begin order". Row u at a width is the
-- part that starts at u × width. Assumes nothing.
use Rattle.std.specs.Prelude.{ℕ, zero, suc, ◌+◌, ◌*◌, ◌-◌, ◌/◌, min, max, Bool, true, false, ◌&&◌, List, ◌++◌, leb, ltb}
use Rattle.std.specs.Prelude.{length, get_or, set, take, drop, replicate}

-- "21: clock width not 1 to 1,024, or clock space shorter than event actions × width."
unfoldable pub space_for : ℕ → ℕ → ℕ → Bool
space_for width events space = (leb 1 width && leb width 1024) && leb (events * width) space

-- "compares t's entry at t's chain in both rows", in any clocks, where c is t's chain
unfoldable pub compare_in : List ℕ → ℕ → ℕ → ℕ → ℕ → Bool
compare_in clocks width c t u = leb (get_or clocks (t * width + c) 0) (get_or clocks (u * width + c) 0)

-- row u stands in clocks of that space
unfoldable pub has_row : ℕ → ℕ → ℕ → Bool
has_row space width u = leb width 1024 && leb (u * width + width) space

abbrev pub rows_if : Bool → List ℕ → List ℕ → List ℕ
rows_if true a b = a
rows_if false a b = b

-- The entries of row p that are gone through where that many chains are taken: no row has more chains than begins up to its own, and every
-- row is 0 past its chains. A multiple of sixteen where the width allows it.
unfoldable pub reach : ℕ → ℕ → ℕ → ℕ
reach width chains p = min width ((min chains (p + 1) + 15) / 16 * 16)

-- entry c of row p merged into row u; and the k entries from c on
unfoldable pub merge_at : ℕ → ℕ → ℕ → ℕ → List ℕ → List ℕ
merge_at width p u c cs = set cs (u * width + c) (max (get_or cs (u * width + c) 0) (get_or cs (p * width + c) 0))

unfoldable pub merge_from : ℕ → ℕ → ℕ → ℕ → ℕ → List ℕ → List ℕ
merge_from width p u c zero cs = cs
merge_from width p u c (suc k) cs = merge_from width p u (suc c) k (merge_at width p u c cs)

-- row p merged into row u, where p is before u and row u stands in the clocks
unfoldable pub merge_row : ℕ → ℕ → ℕ → ℕ → List ℕ → List ℕ
merge_row width chains p u cs = rows_if (ltb p u && has_row (length cs) width u) (merge_from width p u 0 (reach width chains p) cs) cs

-- "with 1 added at its own chain": one more at entry c of a row, where it has one below 65,535
unfoldable pub one_more : ℕ → List ℕ → List ℕ
one_more c row = rows_if (ltb c (length row) && ltb (get_or row c 0) 65535) (set row c (get_or row c 0 + 1)) row

-- The same with copying, over whatever row u holds: zeros past the entries that are copied, a multiple of 32 where the width allows it.
unfoldable pub span : ℕ → ℕ → ℕ → ℕ
span width chains p = min width ((min chains (p + 1) + 31) / 32 * 32)

unfoldable pub clear_past : ℕ → ℕ → ℕ → List ℕ → List ℕ
clear_past width u c cs = take (u * width + c) cs ++ (replicate (width - c) 0 ++ drop (u * width + width) cs)

unfoldable pub copy_at : ℕ → ℕ → ℕ → ℕ → List ℕ → List ℕ
copy_at width p u c cs = set cs (u * width + c) (get_or cs (p * width + c) 0)

unfoldable pub copy_from : ℕ → ℕ → ℕ → ℕ → ℕ → List ℕ → List ℕ
copy_from width p u c zero cs = cs
copy_from width p u c (suc k) cs = copy_from width p u (suc c) k (copy_at width p u c cs)

unfoldable pub copy_row : ℕ → ℕ → ℕ → ℕ → List ℕ → List ℕ
copy_row width chains p u cs =
    rows_if (ltb p u && has_row (length cs) width u) (clear_past width u (span width chains p) (copy_from width p u 0 (span width chains p) cs)) cs

-- zeros in row u, where it stands in the clocks; and in the first rows
unfoldable pub clear_row : ℕ → ℕ → List ℕ → List ℕ
clear_row width u cs = rows_if (has_row (length cs) width u) (take (u * width) cs ++ (replicate width 0 ++ drop (u * width + width) cs)) cs

unfoldable pub clear_rows : ℕ → ℕ → List ℕ → List ℕ
clear_rows width zero cs = cs
clear_rows width (suc u) cs = clear_row width u (clear_rows width u cs)
