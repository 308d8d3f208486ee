-- Laws of bytes written one after the other, and of a line printed where it fits.
-- Assumes nothing.
use Prim.Native.Nat.{ℕ, suc, ◌+◌, ◌/◌, ◌%◌, ◌≤◌, ◌<◌}
use mathlib.Core.Path.{◌≡◌, refl, sym, ap, ◌∙◌}
use mathlib.Core.List.{List, [], ◌∷◌, ◌++◌}
use native.Mathlib.Nat.{add-zero}
use native.Mathlib.Omega.{arith}
use native.Mathlib.Numerals.{add-one}
use borrow.Author.Tests.{le-leb, lt-leb}
use lib.ListN.{length, get_or, take, drop, set, length-append}
use lib.Seq.{sets, length-sets, sets-eq, set_comm, drop-cons, drop-length, take_at, length-take-le}
use Rattle.listing.specs.Lines.{decimal, shape_word, put_at, after_line, Printed}
use Rattle.listing.specs.loops.Pieces.{Written}
use Rattle.listing.proofs.Decimal.{decimal-one, decimal-more, length-one, length_more}
use Rattle.listing.proofs.Text.{shape-length}

pub sets-append : (l : List ℕ) (i : ℕ) (xs ys : List ℕ) → sets l i (xs ++ ys) ≡ sets (sets l i xs) (i + length xs) ys
sets-append l i [] ys = rw add-zero
sets-append l i (x ∷ xs) ys =
    let e : i + suc (length xs) ≡ suc i + length xs = omega arith in
    rw e (sets-append (set l i x) (suc i) xs ys)

-- a store past the bytes written may come before them
pub sets-after : (l : List ℕ) (i : ℕ) (xs : List ℕ) (j x : ℕ) → i + length xs ≤ j → set (sets l i xs) j x ≡ sets (set l j x) i xs
sets-after l i [] j x h = refl
sets-after l i (y ∷ xs) j x h =
    sets-after (set l i y) (suc i) xs j x (omega arith)
    ∙ ap (λ (m : List ℕ). sets m (suc i) xs) (set_comm l i j y x (omega arith))

-- the last byte first
pub sets_last : (l : List ℕ) (i : ℕ) (xs : List ℕ) (x j : ℕ) → j ≡ i + length xs → sets (set l j x) i xs ≡ sets l i (xs ++ x ∷ [])
sets_last l i xs x j e = rw e (sym (sets-append l i xs (x ∷ []) ∙ sets-after l i xs (i + length xs) x (omega arith)))

-- one piece, then the next
pub both : {s s₁ s₂ xs ys : List ℕ} {at m n r₁ r₂ : ℕ} → Written s at xs m s₁ r₁ → Written s₁ r₁ ys n s₂ r₂ → Written s at (xs ++ ys) (m + n) s₂ r₂
both {s = s} {xs = xs} {ys = ys} {at = at} w v =
    let place = w.next in
    let size = w.size in
    record {
      contents = v.contents ∙ rw (w.contents, place, ← size) (sym (sets-append s at xs ys));
      size = omega (arith, v.size, length-append xs ys);
      next = omega (arith, v.next);
    }

-- a shape's word, with a space, is three bytes
pub shape-written : {s s' : List ℕ} {at r : ℕ} (shape : ℕ) (word : List ℕ) → word ≡ shape_word shape ++ 32 ∷ [] → Written s at word (length word) s' r → Written s at (shape_word shape ++ 32 ∷ []) 3 s' r
shape-written shape word e w =
    let three : length (shape_word shape ++ 32 ∷ []) ≡ 3 = omega (arith, length-append (shape_word shape) (32 ∷ []), shape-length shape) in
    rw three at (rw e at w)

-- a line whose pieces are written is printed, and where it doesn't fit nothing is
pub printed : {s bytes s' : List ℕ} {at n r : ℕ} (text : List ℕ) → text ≡ bytes → Written s at bytes n s' r → at + n ≤ length s → Printed s at text s' r
unfolding put_at after_line
printed {s = s} {bytes = bytes} {at = at} text e w h =
    let room : at + length bytes ≤ length s = omega (arith, w.size) in
    rw e
    record {
      contents = w.contents ∙ rw (le-leb _ _ room) (sets-eq bytes s at room);
      answer = rw (le-leb _ _ room) (omega (arith, w.size, w.next));
    }

pub no-space : (s text : List ℕ) (at : ℕ) → length s < at + length text → Printed s at text s at
unfolding put_at after_line
no-space s text at h = record { contents = rw (lt-leb _ _ h); answer = rw (lt-leb _ _ h) }

-- a line that fits stands after what is printed already
module _ {s s' : List ℕ} {at r : ℕ} (text : List ℕ) (p : Printed s at text s' r) (h : at + length text ≤ length s) where
  pub printed-after : r ≡ at + length text
  unfolding after_line
  printed-after = p.answer ∙ rw (le-leb _ _ h)

  pub printed-text : s' ≡ take at s ++ text ++ drop (at + length text) s
  unfolding put_at
  printed-text = p.contents ∙ rw (le-leb _ _ h)

  pub printed-length : length s' ≡ length s
  printed-length =
      rw (printed-text, ← (sets-eq text s at h)) (length-sets s at text)

  pub printed-before : take r s' ≡ take at s ++ text
  printed-before =
      let k : at ≤ length s = omega arith in
      rw (printed-text, printed-after)
      (take_at (take at s ++ text) (drop (at + length text) s) (at + length text) (omega (arith, length-append (take at s) text, length-take-le at s k)))

-- the next byte of a word, then the rest of it
pub word_next : (l : List ℕ) (at i : ℕ) (word : List ℕ) → i < length word
    → sets (set l (at + i) (get_or word i 0)) (at + (i + 1)) (drop (i + 1) word) ≡ sets l (at + i) (drop i word)
word_next l at i word h =
    let e : at + (i + 1) ≡ suc (at + i) = omega arith in
    rw (e, add-one i, drop-cons word i 0 h)

-- nothing is left of the word
pub word_end : (l : List ℕ) (at i : ℕ) (word : List ℕ) → length word ≡ i → sets l (at + i) (drop i word) ≡ l
word_end l at i word e = rw (← e, drop-length word)

-- a number's last digit, then the digits before it
pub number-next : (l : List ℕ) (at i n : ℕ) → 10 ≤ n → i + 1 ≡ at + length (decimal n) → sets (set l i (48 + n % 10)) at (decimal (n / 10)) ≡ sets l at (decimal n)
number-next l at i n h e = rw (decimal-more n h) (sets_last l at (decimal (n / 10)) (48 + n % 10) i (omega (arith, length_more n h)))

-- a number's first digit
pub number-end : (l : List ℕ) (at i n : ℕ) → n < 10 → i + 1 ≡ at + length (decimal n) → set l i (48 + n) ≡ sets l at (decimal n)
number-end l at i n h e =
    let same : i ≡ at = omega (arith, length-one n h) in
    rw (decimal-one n h, same)
