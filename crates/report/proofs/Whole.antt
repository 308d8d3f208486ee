-- Lines that fit the space stand in it whole, one after the other. Assumes nothing.
use Prim.Native.Nat.{ℕ, ◌+◌, ◌≤◌}
use mathlib.Core.Path.{◌≡◌, refl, sym, ap, ◌∙◌}
use mathlib.Core.List.{List, [], ◌∷◌, ◌++◌, append_assoc}
use native.Mathlib.Omega.{arith}
use borrow.Author.Tests.{le-leb}
use lib.ListN.{length, drop, length-append, length-drop}
use lib.Seq.{take-append_seam, drop-append-add, drop-drop}
use Rattle.listing.specs.Lines.{put_at, after_line}
use Rattle.report.specs.Text.{text, put_lines, after_lines, Prints}

-- after what is printed there are that many bytes left: the next line stands there
put_next : (before s l : List ℕ) → length l ≤ length s → put_at (before ++ s) (length before) l ≡ (before ++ l) ++ drop (length l) s
unfolding put_at
put_next before s l h =
    let fits : length before + length l ≤ length (before ++ s) = omega (arith, length-append before s) in
    rw (le-leb (length before + length l) (length (before ++ s)) fits, take-append_seam before s, drop-append-add before s (length l)) refl

after_next : (before s l : List ℕ) → length l ≤ length s → after_line (before ++ s) (length before) l ≡ length (before ++ l)
unfolding after_line
after_next before s l h =
    let fits : length before + length l ≤ length (before ++ s) = omega (arith, length-append before s) in
    rw (le-leb (length before + length l) (length (before ++ s)) fits) (sym (length-append before l))

module _ where
  text-then : (l : List ℕ) (ls : List (List ℕ)) → text (l ∷ ls) ≡ l ++ text ls
  unfolding text
  text-then l ls = refl

  put_all : (ls : List (List ℕ)) (before s : List ℕ) → length (text ls) ≤ length s
      → put_lines (before ++ s) (length before) ls ≡ before ++ (text ls ++ drop (length (text ls)) s)
  unfolding put_lines text
  put_all [] before s h = refl
  put_all (l ∷ ls) before s h =
      let k = length-append l (text ls) in
      let a : length l ≤ length s = omega (arith, k) in
      let d : length (text ls) ≤ length (drop (length l) s) = omega (arith, k, length-drop (length l) s) in
      let past = drop (length (l ++ text ls)) s in
      let e : drop (length (text ls)) (drop (length l) s) ≡ past = drop-drop (length (text ls)) (length l) s ∙ ap (λ n. drop n s) (sym k) in
      let joined = append_assoc before l (text ls ++ past) ∙ ap (λ x. before ++ x) (sym (append_assoc l (text ls) past)) in
      rw (put_next before s l a, after_next before s l a) (put_all ls (before ++ l) (drop (length l) s) d ∙ rw e joined)

  after-all : (ls : List (List ℕ)) (before s : List ℕ) → length (text ls) ≤ length s
      → after_lines (before ++ s) (length before) ls ≡ length before + length (text ls)
  unfolding after_lines text
  after-all [] before s h = omega arith
  after-all (l ∷ ls) before s h =
      let k = length-append l (text ls) in
      let a : length l ≤ length s = omega (arith, k) in
      let d : length (text ls) ≤ length (drop (length l) s) = omega (arith, k, length-drop (length l) s) in
      rw (put_next before s l a, after_next before s l a) (after-all ls (before ++ l) (drop (length l) s) d ∙ omega (arith, k, length-append before l))

-- Lines that fit stand one after the other from the first byte on; the answer is their length, and the bytes past them are as before.
pub prints-whole : {s s' : List ℕ} {ls : List (List ℕ)} {r : ℕ} → Prints s 0 ls s' r → length (text ls) ≤ length s
    → (s' ≡ text ls ++ drop (length (text ls)) s) × (r ≡ length (text ls))
prints-whole {s} {ls = ls} p h =
    let z : 0 + length (text ls) ≡ length (text ls) = omega arith in
    (p.contents ∙ put_all ls [] s h, p.answer ∙ after-all ls [] s h ∙ z)
