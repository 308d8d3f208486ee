-- The three lines as the pieces that the code writes, and their lengths.
-- Assumes nothing.
use Prim.Native.Nat.{ℕ, ◌+◌, ◌^◌, ◌≤◌, ◌<◌}
use mathlib.Core.Path.{◌≡◌, refl}
use mathlib.Core.List.{List, [], ◌∷◌, ◌++◌, append_assoc}
use mathlib.Core.Bool.{Bool, true, false, cond}
use native.Mathlib.Omega.{arith}
use lib.Dec.{eqb}
use lib.ListN.{length, length-append}
use Rattle.listing.specs.Lines.{ascii, decimal, line, shape_word, mark_word, header_line, pair_line, refused_line}
use Rattle.listing.proofs.Decimal.{digits-at-most, twenty-digits}

-- a field with the byte after it
abbrev pub ended : List ℕ → ℕ → List ℕ
ended field end = field ++ end ∷ []

-- a word, a number, and the byte after it
abbrev pub named : List ℕ → ℕ → ℕ → List ℕ
named word n end = ended word 32 ++ ended (decimal n) end

pub header-text : (events records chains pairs : ℕ)
    → header_line events records chains pairs
    ≡ named (ascii "events") events 32 ++ (named (ascii "records") records 32 ++ (named (ascii "chains") chains 32 ++ named (ascii "pairs") pairs 10))
unfolding header_line line
header-text events records chains pairs = simp append_assoc

pub header-length : (events records chains pairs : ℕ)
    → length (header_line events records chains pairs)
    ≡ 32 + length (decimal events) + length (decimal records) + length (decimal chains) + length (decimal pairs)
unfolding ascii
header-length events records chains pairs = rw header-text (simp length-append (omega arith))

pub pair-text : (first second cell shape mark : ℕ)
    → pair_line first second cell shape mark
    ≡ ended (decimal first) 32 ++ (ended (decimal second) 32 ++ (ended (decimal cell) 32 ++ (ended (shape_word shape) 32 ++ ended (mark_word mark) 10)))
unfolding pair_line line
pair-text first second cell shape mark = simp append_assoc

pub refused-text : (number place : ℕ) → refused_line number place ≡ named (ascii "refused") number 32 ++ ended (decimal place) 10
unfolding refused_line line
refused-text number place = simp append_assoc

pub refused-length : (number place : ℕ) → length (refused_line number place) ≡ 10 + length (decimal number) + length (decimal place)
unfolding ascii
refused-length number place = rw refused-text (simp length-append (omega arith))

pub shape-length : (shape : ℕ) → length (shape_word shape) ≡ 2
unfolding shape_word ascii
shape-length shape = go (eqb shape 1) (eqb shape 2)
  where
    go : (one two : Bool) → length (cond one (ascii "ww") (cond two (ascii "wr") (ascii "rw"))) ≡ 2
    go true two = refl
    go false true = refl
    go false false = refl

pub pair-length : (first second cell shape mark : ℕ)
    → length (pair_line first second cell shape mark)
    ≡ 7 + length (decimal first) + length (decimal second) + length (decimal cell) + length (mark_word mark)
pair-length first second cell shape mark = rw pair-text (simp length-append (omega (arith, shape-length shape)))

-- the longest lines, of numbers that fit their types
pub header-at-most : (events records chains pairs : ℕ) → events < 2 ^ 64 → records < 2 ^ 64 → chains < 2 ^ 64 → pairs < 2 ^ 64
    → length (header_line events records chains pairs) ≤ 112
header-at-most events records chains pairs he hr hc hp =
    rw header-length (omega (arith, twenty-digits events he, twenty-digits records hr, twenty-digits chains hc, twenty-digits pairs hp))

pub mark-at-most : (mark : ℕ) → length (mark_word mark) ≤ 7
unfolding mark_word ascii
mark-at-most mark = go (eqb mark 1)
  where
    go : (one : Bool) → length (cond one (ascii "open") (ascii "covered")) ≤ 7
    go true = omega arith
    go false = omega arith

pub pair-at-most : (first second cell shape mark : ℕ) → first < 2 ^ 16 → second < 2 ^ 16 → cell < 2 ^ 16
    → length (pair_line first second cell shape mark) ≤ 29
pair-at-most first second cell shape mark hf hs hc =
    rw pair-length
    (omega (arith, digits-at-most 4 first (omega arith), digits-at-most 4 second (omega arith), digits-at-most 4 cell (omega arith), mark-at-most mark))

pub refused-at-most : (number place : ℕ) → number < 2 ^ 64 → place < 2 ^ 64 → length (refused_line number place) ≤ 50
refused-at-most number place hn hp = rw refused-length (omega (arith, twenty-digits number hn, twenty-digits place hp))
