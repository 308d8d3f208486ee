-- The marks of the event actions that lead to b, by row. Assumes nothing.
use Prim.Native.Nat.{ℕ, zero, suc, ◌≤◌, ◌<◌}
use mathlib.Core.Path.{◌≡◌, refl, sym, ap, ◌∙◌}
use mathlib.Core.Logic.{◌≢◌}
use mathlib.Core.Bool.{Bool}
use mathlib.Core.List.{List, [], ◌∷◌, ◌++◌}
use native.Mathlib.Omega.{arith}
use native.Mathlib.Decide.{ℕ_discrete}
use borrow.Author.Tests.{eq-eqb, ne_eqb}
use lib.ListN.{length, get_or, take, drop, length-append, get_or-append, take-append-drop}
use lib.Seq.{get_or-append_seam, ext_get_or, get_or-take, length-take-le}
use Rattle.records.specs.declared.Record.{Record}
use Rattle.records.specs.Records.{at, past, event_of}
use Rattle.trace.specs.Reading.{Acceptable}
use Rattle.order.proofs.Counted.{counted, counted-zero, counted-begin, counted-other}
use Rattle.order.proofs.TraceOrder.{ranked}
use Rattle.coverage.specs.Leading.{leads}
use Rattle.races.specs.Traces.{setting_of}
use Rattle.pair.specs.loops.Leading.{mark, marks_in, leading_marks, Marks}
use Rattle.races.specs.loops.FilledClocks.{rows}
use Rattle.pair.specs.loops.Kept.{row_of}
use Rattle.pair.proofs.RecordRows.{row_low, row_one}

-- A mark for each begin, in the order of begins.
module _ (tr : List Record) (test : ℕ → Bool) where
  marks_begin : (i : ℕ) → (at tr i).kind ≡ 1 → marks_in test (past tr (suc i)) ≡ marks_in test (past tr i) ++ mark (test (event_of (at tr i))) ∷ []
  unfolding marks_in past
  marks_begin i k = rw (eq-eqb (at tr i).kind 1 k)

  marks-other : (i : ℕ) → (at tr i).kind ≢ 1 → marks_in test (past tr (suc i)) ≡ marks_in test (past tr i)
  unfolding marks_in past
  marks-other i n = rw (ne_eqb (at tr i).kind 1 n)

  marks-zero : marks_in test (past tr 0) ≡ []
  unfolding marks_in past
  marks-zero = refl

  pub marks-long : (i : ℕ) → length (marks_in test (past tr i)) ≡ counted tr i
  marks-long zero = ap length marks-zero ∙ sym (counted-zero tr)
  marks-long (suc i) = go (ℕ_discrete (at tr i).kind 1) (marks-long i)
    where
      go : Dec ((at tr i).kind ≡ 1) → length (marks_in test (past tr i)) ≡ counted tr i → length (marks_in test (past tr (suc i))) ≡ counted tr (suc i)
      go (yes k) h = rw (marks_begin i k, length-append) (omega (arith, h, counted-begin tr i k))
      go (no n) h = rw (marks-other i n) (h ∙ sym (counted-other tr i n))

  -- the mark at a row is that of the event that begins there
  pub record RowMark (i r : ℕ) : Type 0 where
    pub position : ℕ
    pub earlier : position < i
    pub begin : (at tr position).kind ≡ 1
    pub row : counted tr position ≡ r
    pub byte : get_or (marks_in test (past tr i)) r 0 ≡ mark (test (event_of (at tr position)))

  pub row-mark : (i r : ℕ) → r < counted tr i → RowMark i r
  row-mark zero r l = absurd (omega (arith, counted-zero tr))
  row-mark (suc i) r l = go (ℕ_discrete (at tr i).kind 1) (ℕ_discrete r (counted tr i)) (row-mark i r)
    where
      go : Dec ((at tr i).kind ≡ 1) → Dec (r ≡ counted tr i) → (r < counted tr i → RowMark i r) → RowMark (suc i) r
      go (no n) _ f =
          let w = f (omega (arith, counted-other tr i n)) in
          let k = w.earlier in
          record { position = w.position; earlier = omega arith; begin = w.begin; row = w.row; byte = rw (marks-other i n) w.byte }
      go (yes k) (yes e) f = record {
        position = i;
        earlier = omega arith;
        begin = k;
        row = sym e;
        byte = rw (marks_begin i k, e, ← marks-long i) (get_or-append_seam (marks_in test (past tr i)) (mark (test (event_of (at tr i)))) [] 0);
      }
      go (yes k) (no n) f =
          let m : r < counted tr i = omega (arith, counted-begin tr i k) in
          let w = f m in
          let q = w.earlier in
          record { position = w.position; earlier = omega arith; begin = w.begin; row = w.row; byte = rw (marks_begin i k) (get_or-append (marks_in test (past tr i)) (mark (test (event_of (at tr i))) ∷ []) 0 r (omega (arith, marks-long i))) ∙ w.byte }

-- Those that lead to b.
module _ {tr : List Record} (a : Acceptable tr) (b : ℕ) where
  abbrev test : ℕ → Bool
  test = leads (setting_of tr) b

  abbrev all : List ℕ
  all = marks_in test (past tr (length tr))

  at_row : (r : ℕ) (w : RowMark tr test (length tr) r) → row_of tr w.position ≡ r
  at_row r w = omega (arith, ranked a w.position w.earlier w.begin, w.row)

  pub leading-long : length (leading_marks tr b) ≡ rows tr
  unfolding leading_marks
  leading-long = marks-long tr test (length tr)

  -- a work space that has them over its rows
  pub marks-made : (work : List ℕ) → rows tr ≤ length work → ((x : ℕ) → x < length tr → get_or work (row_of tr x) 0 ≡ mark (test (event_of (at tr x)))) → work ≡ leading_marks tr b ++ drop (rows tr) work
  unfolding leading_marks
  marks-made work room f = sym (take-append-drop (rows tr) work) ∙ ap (λ (l : List ℕ). l ++ drop (rows tr) work) front
    where
      size : length (take (rows tr) work) ≡ rows tr
      size = length-take-le (rows tr) work room

      byte : (r : ℕ) → RowMark tr test (length tr) r → get_or work r 0 ≡ get_or all r 0
      byte r w = ap (λ (k : ℕ). get_or work k 0) (sym (at_row r w)) ∙ f w.position w.earlier ∙ sym w.byte

      front : take (rows tr) work ≡ all
      front = ext_get_or 0 (take (rows tr) work) all (size ∙ sym (marks-long tr test (length tr)))
          (λ r l. let k : r < rows tr = omega (arith, size) in get_or-take (rows tr) work r 0 k ∙ byte r (row-mark tr test (length tr) r k))

  -- read
  marks-at : (rest : List ℕ) (x : ℕ) → x < length tr → get_or (leading_marks tr b ++ rest) (row_of tr x) 0 ≡ mark (test (event_of (at tr x)))
  unfolding leading_marks
  marks-at rest x h = go (row-mark tr test (length tr) (row_of tr x) (row_low a x h))
    where
      go : RowMark tr test (length tr) (row_of tr x) → get_or (all ++ rest) (row_of tr x) 0 ≡ mark (test (event_of (at tr x)))
      go w = get_or-append all rest 0 (row_of tr x) (omega (arith, marks-long tr test (length tr), row_low a x h)) ∙ w.byte ∙ ap (λ (e : ℕ). mark (test e)) (row_one a w.position x w.earlier h (at_row (row_of tr x) w))

module _ {tr : List Record} {ranks work : List ℕ} {b : ℕ} (m : Marks tr ranks work b) where
  pub marks-tell : (x : ℕ) → x < length tr → get_or work (row_of tr x) 0 ≡ mark (leads (setting_of tr) b (event_of (at tr x)))
  marks-tell x h = ap (λ (w : List ℕ). get_or w (row_of tr x) 0) m.work_is ∙ marks-at m.acceptable b (drop (rows tr) work) x h

  pub marks-room : rows tr ≤ length work
  marks-room = omega (arith, ap length m.work_is ∙ length-append (leading_marks tr b) (drop (rows tr) work), leading-long m.acceptable b)
