-- The position of the begin of a row. Assumes nothing.
use Prim.Native.Nat.{ℕ, ◌+◌, ◌≤◌, ◌<◌}
use mathlib.Core.Path.{◌≡◌, ◌∙◌}
use mathlib.Core.Bool.{Bool, ◌&&◌}
use mathlib.Core.List.{List}
use mathlib.Core.Logic.{◌≢◌, ◌⊎◌, inl, inr}
use native.Mathlib.Omega.{arith}
use native.Mathlib.Numerals.{add-one}
use lib.Dec.{T, eqb, eqb→eq}
use lib.ListN.{length}
use Rattle.records.specs.declared.Record.{Record}
use Rattle.records.specs.Records.{at, is_begin}
use Rattle.slices.proofs.Tests.{both, and, eq→eqb, decide_eq}
use Rattle.order.specs.Fill.{events_in, begin_position}
use Rattle.order.proofs.CountLaws.{First, first-first, first-only}
use Rattle.order.proofs.Counted.{counted, counted-zero, counted-begin, counted-other, counted-passes}
use Rattle.order.proofs.EventRows.{begin_of, begun}

module _ (tr : List Record) (u : ℕ) where
  -- is record i the begin of row u?
  abbrev test : ℕ → Bool
  test i = is_begin (at tr i) && eqb (counted tr i) u

  position-is : (i : ℕ) → First test 0 (length tr) i → i ≡ begin_position tr u
  unfolding begin_position
  position-is i f = first-only test (length tr) i _ f (first-first test (length tr))

  -- none of the first i records is
  pub record Seeking (begins i : ℕ) : Type 0 where
    pub begins_are : begins ≡ counted tr i
    pub few : begins ≤ i
    pub none : (j : ℕ) → j < i → T (test j) → ⊥

  pub seeking-start : Seeking 0 0
  seeking-start = record { begins_are = omega (arith, counted-zero tr); few = omega arith; none = λ j h k. absurd (omega arith) }

  module _ {begins i : ℕ} (s : Seeking begins i) where
    pub seeking-here : i < length tr → (at tr i).kind ≡ 1 → begins ≡ u → i ≡ begin_position tr u
    seeking-here h k e = position-is i (record {
      from = omega arith;
      to = omega arith;
      passes = λ g. and (is_begin (at tr i)) (eqb (counted tr i) u) (eq→eqb (at tr i).kind 1 k) (eq→eqb (counted tr i) u (omega (arith, s.begins_are)));
      none = λ j f g. s.none j g;
    })

    on : (T (test i) → ⊥) → (j : ℕ) → j < i + 1 → T (test j) → ⊥
    on n j h k = go (decide_eq j i)
      where
        go : (j ≡ i) ⊎ (j ≢ i) → ⊥
        go (inl e) = n (rw e at k)
        go (inr d) = s.none j (omega arith) k

    pub seeking-begin : (at tr i).kind ≡ 1 → begins ≢ u → Seeking (begins + 1) (i + 1)
    seeking-begin k n = record {
      begins_are = rw (add-one i) (omega (arith, s.begins_are, counted-begin tr i k));
      few = omega (arith, s.few);
      none = on (λ t. n (s.begins_are ∙ eqb→eq (counted tr i) u (both (is_begin (at tr i)) (eqb (counted tr i) u) t).1));
    }

    pub seeking-other : (at tr i).kind ≢ 1 → Seeking begins (i + 1)
    seeking-other n = record {
      begins_are = rw (add-one i) (omega (arith, s.begins_are, counted-other tr i n));
      few = omega (arith, s.few);
      none = on (λ t. n (eqb→eq (at tr i).kind 1 (both (is_begin (at tr i)) (eqb (counted tr i) u) t).0));
    }

    pub seeking-end : length tr ≤ i → length tr ≡ begin_position tr u
    seeking-end h = position-is (length tr) (record { from = omega arith; to = omega arith; passes = λ g. absurd (omega arith); none = λ j f g. s.none j (omega arith) })

  -- it is inside the trace where there is such a row, and past it where there is none
  pub position-none : events_in tr ≤ u → begin_position tr u ≡ length tr
  unfolding events_in begin_position
  position-none h = first-only test (length tr) _ (length tr) (first-first test (length tr)) (record {
    from = omega arith;
    to = omega arith;
    passes = λ g. absurd (omega arith);
    none = λ j f g t.
        let (k, e) = both (is_begin (at tr j)) (eqb (counted tr j) u) t in
        omega (arith, counted-passes tr j (length tr) g (eqb→eq (at tr j).kind 1 k), eqb→eq (counted tr j) u e);
  })

  pub position-inside : u < events_in tr → begin_position tr u < length tr
  unfolding events_in begin_position
  position-inside h =
      let b = begun tr u h in
      let f = first-first test (length tr) in
      let passes = and (is_begin (at tr (begin_of tr u))) (eqb (counted tr (begin_of tr u)) u) (eq→eqb (at tr (begin_of tr u)).kind 1 b.kind)
      (eq→eqb (counted tr (begin_of tr u)) u b.number) in
      let g : begin_of tr u < begin_position tr u → ⊥ = λ l. f.none (begin_of tr u) (omega arith) l passes in
      omega (arith, g, b.inside)
