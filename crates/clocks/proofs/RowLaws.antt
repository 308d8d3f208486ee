-- Merging and clearing rows of lent clocks.
-- Assumes nothing.
use Prim.Native.Nat.{ℕ, zero, suc, ◌+◌, ◌*◌, ◌-◌, ◌≤◌, ◌<◌, max}
use mathlib.Core.Path.{◌≡◌, refl, sym, ◌∙◌, ap}
use mathlib.Core.Bool.{Bool, true, false, ◌&&◌, and-eq-true_iff}
use mathlib.Core.List.{List, ◌++◌, append_assoc}
use mathlib.Core.Logic.{◌⊎◌, inl, inr}
use native.Mathlib.Omega.{arith}
use native.Mathlib.Nat.{mul-le-mul_right, suc-mul, zero-mul, le_of_lt}
use native.Mathlib.Decide.{dec_le}
use native.Mathlib.Numerals.{add-one}
use borrow.Author.Tests.{lt-ltb, ltb-true, le-leb, leb-true}
use borrow.Rule.Slice.PartMut.{put_mid, set_mid_at, Post-is, mid_len}
use lib.Dec.{leb, ltb}
use lib.ListN.{length, get_or, set, take, drop, replicate, length-append, length-take, length-drop, length-set, length-replicate, replicate-append-replicate}
use lib.ListN.{get_or-replicate, get_or-append}
use lib.Seq.{length-take-le, get_or-append-add, get_or-take, get_or-drop, take_at, drop-append-add, drop-drop}
use Rattle.slices.specs.Slices.{filled, cleared}
use Rattle.slices.proofs.Cleared.{cleared-whole, cleared-long}
use Rattle.clocks.specs.Rows.{one_more, has_row, rows_if, reach, merge_at, merge_from, merge_row, span, clear_past, copy_at, copy_from, copy_row, clear_row, clear_rows}

-- row u stands in the clocks
pub record Stands (space w u : ℕ) : Type 0 where
  pub narrow : w ≤ 1024
  pub inside : u * w + w ≤ space

pub row-stands : (space w u : ℕ) → has_row space w u ≡ true → Stands space w u
unfolding has_row
row-stands space w u h =
    let p = (and-eq-true_iff (leb w 1024) (leb (u * w + w) space)).0 h in
    record { narrow = leb-true w 1024 p.0; inside = leb-true (u * w + w) space p.1 }

pub stands-row : (space w u : ℕ) → w ≤ 1024 → u * w + w ≤ space → has_row space w u ≡ true
unfolding has_row
stands-row space w u h k = rw (le-leb w 1024 h, le-leb (u * w + w) space k)

-- a row by a 16-bit number fits a machine word
pub row_fits : (u w : ℕ) → u < 65536 → w ≤ 1024 → u * w + w < 18446744073709551616
row_fits u w h k = let p = mul-le-mul_right w (le_of_lt h) in omega arith

-- an earlier row ends before a later one starts
pub row_before : (w p u : ℕ) → p < u → p * w + w ≤ u * w
row_before w p u h = omega (arith, mul-le-mul_right w h, suc-mul p w)

-- rows p and u stand in the clocks, p before u
pub record Apart (space w p u : ℕ) : Type 0 where
  pub earlier : p < u
  pub stands : Stands space w u
  pub before : p * w + w ≤ u * w

pub rows_apart : (space w p u : ℕ) → (ltb p u && has_row space w u) ≡ true → Apart space w p u
rows_apart space w p u h =
    let q = (and-eq-true_iff (ltb p u) (has_row space w u)).0 h in
    let e = ltb-true p u q.0 in
    record { earlier = e; stands = row-stands space w u q.1; before = row_before w p u e }

-- the entries that are gone through
module _ (w chains p : ℕ) where
  pub reach-le : reach w chains p ≤ w
  unfolding reach
  reach-le = omega arith

  -- past them there is no chain, or none that has begun with row p
  pub reach-past : (c : ℕ) → c < w → reach w chains p ≤ c → (chains ≤ c) ⊎ (p < c)
  unfolding reach
  reach-past c h k = go (dec_le chains c)
    where
      go : Dec (chains ≤ c) → (chains ≤ c) ⊎ (p < c)
      go (yes l) = inl l
      go (no n) = inr (omega (arith, n))

  pub span-le : span w chains p ≤ w
  unfolding span
  span-le = omega arith

  pub span-past : (c : ℕ) → c < w → span w chains p ≤ c → (chains ≤ c) ⊎ (p < c)
  unfolding reach span
  span-past c h k = reach-past c h (omega arith)

-- a store in the part of a row is a store in the clocks
pub stored :
    (f : ℕ → ℕ) (a k c : ℕ) (xs ys : List ℕ) → a + k ≤ length xs → c < k →
    ys ≡ set (take k (drop a xs)) c (f (get_or (take k (drop a xs)) c 0)) → put_mid a k xs ys ≡ set xs (a + c) (f (get_or xs (a + c) 0))
stored f a k c xs ys h i e =
    let room : c < length (take k (drop a xs)) = simp (length-take, length-drop) (omega arith) in
    ap (put_mid a k xs) e ∙ (set_mid_at a k c xs (f (get_or (take k (drop a xs)) c 0)) room ∙ rw (get_or-take k (drop a xs) c 0 i, get_or-drop a xs c 0))

pub merged-at : (w p u c : ℕ) (xs ys : List ℕ) → u * w + w ≤ length xs → c < w → ys ≡ set (take (u * w + w - u * w) (drop (u * w) xs)) c (max (get_or (take (u * w + w - u * w) (drop (u * w) xs)) c 0) (get_or xs (p * w + c) 0)) → put_mid (u * w) (u * w + w - u * w) xs ys ≡ merge_at w p u c xs
unfolding merge_at
merged-at w p u c xs ys h i e = stored (λ x. max x (get_or xs (p * w + c) 0)) (u * w) (u * w + w - u * w) c xs ys (omega arith) (omega arith) e

pub copied_at : (w p u c : ℕ) (xs ys : List ℕ) → u * w + w ≤ length xs → c < w
    → ys ≡ set (take (u * w + w - u * w) (drop (u * w) xs)) c (get_or xs (p * w + c) 0) → put_mid (u * w) (u * w + w - u * w) xs ys ≡ copy_at w p u c xs
unfolding copy_at
copied_at w p u c xs ys h i e = stored (λ x. get_or xs (p * w + c) 0) (u * w) (u * w + w - u * w) c xs ys (omega arith) (omega arith) e

-- merging as a loop makes it, from entry c up to entry k
module _ (w p u c : ℕ) (cs : List ℕ) where
  pub merge-length : length (merge_at w p u c cs) ≡ length cs
  unfolding merge_at
  merge-length = length-set cs (u * w + c) (max (get_or cs (u * w + c) 0) (get_or cs (p * w + c) 0))

  pub merge-next : (k : ℕ) → c < k → merge_from w p u c (k - c) cs ≡ merge_from w p u (c + 1) (k - (c + 1)) (merge_at w p u c cs)
  unfolding merge_from
  merge-next k h =
      let i : k - c ≡ suc (k - suc c) = omega arith in
      let j : c + 1 ≡ suc c = omega arith in
      rw (i, j)

  pub merge-over : (k : ℕ) → k ≤ c → merge_from w p u c (k - c) cs ≡ cs
  unfolding merge_from
  merge-over k h = let i : k - c ≡ 0 = omega arith in rw i

merge-from-length : (w p u k c : ℕ) (cs : List ℕ) → length (merge_from w p u c k cs) ≡ length cs
unfolding merge_from
merge-from-length w p u zero c cs = refl
merge-from-length w p u (suc k) c cs = merge-from-length w p u k (suc c) (merge_at w p u c cs) ∙ merge-length w p u c cs

if-length : (b : Bool) (xs ys : List ℕ) → length xs ≡ length ys → length (rows_if b xs ys) ≡ length ys
if-length true xs ys e = e
if-length false xs ys e = refl

-- merging keeps the length; where the rows stand, it is merging of the entries that are gone through
module _ (w chains p u : ℕ) (cs : List ℕ) where
  pub merge-row-length : length (merge_row w chains p u cs) ≡ length cs
  unfolding merge_row
  merge-row-length = if-length (ltb p u && has_row (length cs) w u) (merge_from w p u 0 (reach w chains p) cs) cs (merge-from-length w p u (reach w chains p) 0 cs)

  pub merge-row-none : (ltb p u && has_row (length cs) w u) ≡ false → merge_row w chains p u cs ≡ cs
  unfolding merge_row
  merge-row-none e = rw e

  pub merge-row-is : (ltb p u && has_row (length cs) w u) ≡ true → merge_row w chains p u cs ≡ merge_from w p u 0 (reach w chains p) cs
  unfolding merge_row
  merge-row-is e = rw e

  pub merge-row-fits : p < u → w ≤ 1024 → u * w + w ≤ length cs → merge_row w chains p u cs ≡ merge_from w p u 0 (reach w chains p) cs
  merge-row-fits h k l = merge-row-is (rw (lt-ltb p u h) (stands-row (length cs) w u k l))

-- copying as a loop makes it
module _ (w p u c : ℕ) (cs : List ℕ) where
  pub copy-length : length (copy_at w p u c cs) ≡ length cs
  unfolding copy_at
  copy-length = length-set cs (u * w + c) (get_or cs (p * w + c) 0)

  pub copy-next : (k : ℕ) → c < k → copy_from w p u c (k - c) cs ≡ copy_from w p u (c + 1) (k - (c + 1)) (copy_at w p u c cs)
  unfolding copy_from
  copy-next k h =
      let i : k - c ≡ suc (k - suc c) = omega arith in
      let j : c + 1 ≡ suc c = omega arith in
      rw (i, j)

  pub copy-over : (k : ℕ) → k ≤ c → copy_from w p u c (k - c) cs ≡ cs
  unfolding copy_from
  copy-over k h = let i : k - c ≡ 0 = omega arith in rw i

module _ (w chains p u : ℕ) (cs : List ℕ) where
  pub copy-row-none : (ltb p u && has_row (length cs) w u) ≡ false → copy_row w chains p u cs ≡ cs
  unfolding copy_row
  copy-row-none e = rw e

  pub copy-row-is :
      (ltb p u && has_row (length cs) w u) ≡ true → copy_row w chains p u cs ≡ clear_past w u (span w chains p) (copy_from w p u 0 (span w chains p) cs)
  unfolding copy_row
  copy-row-is e = rw e

  pub copy-row-fits :
      p < u → w ≤ 1024 → u * w + w ≤ length cs → copy_row w chains p u cs ≡ clear_past w u (span w chains p) (copy_from w p u 0 (span w chains p) cs)
  copy-row-fits h k l = copy-row-is (rw (lt-ltb p u h) (stands-row (length cs) w u k l))

-- zeros in row u from entry c on, by place
module _ (w u c : ℕ) (cs : List ℕ) (fits : u * w + w ≤ length cs) (inside : c ≤ w) where
  front : length (take (u * w + c) cs) ≡ u * w + c
  front = length-take-le (u * w + c) cs (omega arith)

  pub past-length : length (clear_past w u c cs) ≡ length cs
  unfolding clear_past
  past-length = simp (length-append, length-take, length-replicate, length-drop) (omega arith)

  pub past-before : (i : ℕ) → i < u * w + c → get_or (clear_past w u c cs) i 0 ≡ get_or cs i 0
  unfolding clear_past
  past-before i h =
      get_or-append (take (u * w + c) cs) (replicate (w - c) 0 ++ drop (u * w + w) cs) 0 i (omega (arith, front)) ∙ get_or-take (u * w + c) cs i 0 h

  pub past-in : (i : ℕ) → u * w + c ≤ i → i < u * w + w → get_or (clear_past w u c cs) i 0 ≡ 0
  unfolding clear_past
  past-in i h k =
      let j = i - (u * w + c) in
      let e : i ≡ length (take (u * w + c) cs) + j = omega (arith, front) in
      ap (λ (x : ℕ). get_or (take (u * w + c) cs ++ (replicate (w - c) 0 ++ drop (u * w + w) cs)) x 0) e
      ∙ (get_or-append-add (take (u * w + c) cs) (replicate (w - c) 0 ++ drop (u * w + w) cs) j 0
      ∙ (get_or-append (replicate (w - c) 0) (drop (u * w + w) cs) 0 j (omega (arith, length-replicate {A = ℕ} (w - c) 0))
      ∙ get_or-replicate {A = ℕ} (w - c) j 0 0 (omega arith)))

  pub past_after : (i : ℕ) → u * w + w ≤ i → get_or (clear_past w u c cs) i 0 ≡ get_or cs i 0
  unfolding clear_past
  past_after i h =
      let j = i - (u * w + w) in
      let z = length-replicate {A = ℕ} (w - c) 0 in
      let e : i ≡ length (take (u * w + c) cs) + (length (replicate {A = ℕ} (w - c) 0) + j) = omega (arith, front) in
      let q : u * w + w + j ≡ i = omega arith in
      ap (λ (x : ℕ). get_or (take (u * w + c) cs ++ (replicate (w - c) 0 ++ drop (u * w + w) cs)) x 0) e
      ∙ (get_or-append-add (take (u * w + c) cs) (replicate (w - c) 0 ++ drop (u * w + w) cs) (length (replicate {A = ℕ} (w - c) 0) + j) 0
      ∙ (get_or-append-add (replicate (w - c) 0) (drop (u * w + w) cs) j 0 ∙ (get_or-drop (u * w + w) cs j 0 ∙ ap (λ (x : ℕ). get_or cs x 0) q)))

-- clearing the end of a row's part
pub past-at :
    (w u c : ℕ) (xs ys : List ℕ) → u * w + w ≤ length xs → c ≤ w →
    ys ≡ cleared w (take (u * w + w - (u * w + c)) (drop (u * w + c) xs)) → put_mid (u * w + c) (u * w + w - (u * w + c)) xs ys ≡ clear_past w u c xs
unfolding clear_past
past-at w u c xs ys h i e =
    let part = take (u * w + w - (u * w + c)) (drop (u * w + c) xs) in
    let l : length part ≡ w - c = mid_len (u * w + c) (u * w + w) xs h ∙ omega arith in
    rw (cleared-long part (omega arith) e, l, Post-is (u * w + c) (u * w + w) xs (omega arith))

-- clearing the part of a row
pub cleared_at : (w u : ℕ) (xs ys : List ℕ) → u * w + w ≤ length xs → ys ≡ cleared w (take (u * w + w - u * w) (drop (u * w) xs)) → put_mid (u * w) (u * w + w - u * w) xs ys ≡ take (u * w) xs ++ (replicate w 0 ++ drop (u * w + w) xs)
unfolding filled
cleared_at w u xs ys h e =
    let part = take (u * w + w - u * w) (drop (u * w) xs) in
    let l : w ≡ length part = sym (mid_len (u * w) (u * w + w) xs h ∙ omega arith) in
    rw (cleared-whole part l e, Post-is (u * w) (u * w + w) xs (omega arith))

module _ (w u : ℕ) (cs : List ℕ) where
  pub clear-row-none : has_row (length cs) w u ≡ false → clear_row w u cs ≡ cs
  unfolding clear_row
  clear-row-none e = rw e

  pub clear-row-is : has_row (length cs) w u ≡ true → clear_row w u cs ≡ take (u * w) cs ++ (replicate w 0 ++ drop (u * w + w) cs)
  unfolding clear_row
  clear-row-is e = rw e

  pub clear-row-past : has_row (length cs) w u ≡ true → clear_row w u cs ≡ clear_past w u 0 cs
  unfolding clear_past
  clear-row-past e =
      let z : u * w + 0 ≡ u * w = omega arith in
      let k : w - 0 ≡ w = omega arith in
      rw (z, k) (clear-row-is e)

  pub clear-row-length : length (clear_row w u cs) ≡ length cs
  clear-row-length = go (has_row (length cs) w u) refl
    where
      whole : u * w + w ≤ length cs → length (take (u * w) cs ++ (replicate w 0 ++ drop (u * w + w) cs)) ≡ length cs
      whole h = simp (length-append, length-take, length-replicate, length-drop) (omega arith)

      go : (b : Bool) → has_row (length cs) w u ≡ b → length (clear_row w u cs) ≡ length cs
      go true e = ap length (clear-row-is e) ∙ whole (row-stands (length cs) w u e).inside
      go false e = ap length (clear-row-none e)

-- clearing the first rows: one more, the length, and where they stand
module _ (w : ℕ) (cs : List ℕ) where
  pub clear_none : clear_rows w 0 cs ≡ cs
  unfolding clear_rows
  clear_none = refl

  pub clear-more : (u : ℕ) → clear_rows w (u + 1) cs ≡ clear_row w u (clear_rows w u cs)
  unfolding clear_rows
  clear-more u = rw add-one

  pub clear-rows-length : (rows : ℕ) → length (clear_rows w rows cs) ≡ length cs
  unfolding clear_rows
  clear-rows-length zero = refl
  clear-rows-length (suc u) = clear-row-length w u (clear_rows w u cs) ∙ clear-rows-length u

  pub clear-rows-fit : (rows : ℕ) → w ≤ 1024 → rows * w ≤ length cs → clear_rows w rows cs ≡ replicate (rows * w) 0 ++ drop (rows * w) cs
  unfolding clear_rows
  clear-rows-fit zero h k = rw (zero-mul w)
  clear-rows-fit (suc u) h k =
      let s = suc-mul u w in
      let inside : u * w + w ≤ length cs = omega arith in
      let before = clear-rows-fit u h (omega arith) in
      let zeros = length-replicate {A = ℕ} (u * w) 0 in
      let stands = stands-row (length (clear_rows w u cs)) w u h (omega (arith, clear-rows-length u)) in
      clear-row-is w u (clear_rows w u cs) stands ∙ (rw (before, take_at (replicate {A = ℕ} (u * w) 0) (drop (u * w) cs) (u * w) zeros) (rest s zeros))
    where
      rest : suc u * w ≡ u * w + w → length (replicate {A = ℕ} (u * w) 0) ≡ u * w → replicate (u * w) 0 ++ (replicate w 0 ++ drop (u * w + w) (replicate (u * w) 0 ++ drop (u * w) cs)) ≡ replicate (suc u * w) 0 ++ drop (suc u * w) cs
      rest s z =
          ap (λ (r : List ℕ). replicate (u * w) 0 ++ (replicate w 0 ++ r)) (past z)
          ∙ (sym (append_assoc (replicate (u * w) 0) (replicate w 0) (drop (u * w + w) cs)) ∙ (ap (λ (r : List ℕ). r ++ drop (u * w + w) cs) (replicate-append-replicate (u * w) w 0) ∙ sym (ap (λ (k : ℕ). replicate k 0 ++ drop k cs) s)))
        where
          past : length (replicate {A = ℕ} (u * w) 0) ≡ u * w → drop (u * w + w) (replicate (u * w) 0 ++ drop (u * w) cs) ≡ drop (u * w + w) cs
          past z = sym (ap (λ (k : ℕ). drop (k + w) (replicate (u * w) 0 ++ drop (u * w) cs)) z) ∙ (drop-append-add (replicate {A = ℕ} (u * w) 0) (drop (u * w) cs) w ∙ drop-drop w (u * w) cs)

-- one more at an entry that can be raised
pub one_more-at : (row : List ℕ) {row' : List ℕ} (c : ℕ) → c < length row → get_or row c 0 < 65535 → row' ≡ one_more c row → row' ≡ set row c (get_or row c 0 + 1)
unfolding one_more
one_more-at row c l h e = rw (lt-ltb c (length row) l, lt-ltb (get_or row c 0) 65535 h) at e
