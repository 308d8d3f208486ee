-- Filling keeps the table's length. Assumes nothing.
use Prim.Native.Nat.{ℕ, zero, suc, ◌+◌, ◌-◌, ◌/◌, ◌%◌}
use mathlib.Core.Path.{◌≡◌, refl, ◌∙◌}
use mathlib.Core.Bool.{Bool, true, false, ◌&&◌, ◌||◌}
use mathlib.Core.List.{List}
use lib.Dec.{eqb, leb, ltb}
use lib.ListN.{length, get_or, set, length-set}
use Rattle.slices.specs.Slices.{zeros}
use Rattle.slices.proofs.Cleared.{zeros-length}
use Rattle.records.specs.declared.Record.{Record}
use Rattle.records.specs.Records.{at, is_begin, is_join}
use Rattle.records.specs.Kinds.{starts}
use Rattle.bits.specs.Words.{with_bit, or_at, or_from, words_if}
use Rattle.bits.specs.Table.{row_start, in_table, place, bit_of, put_bit, or_row}
use Rattle.bits.proofs.WordLaws.{or-at-length}
use Rattle.links.specs.Rule.{missing, behind, hits, turn_words, turn_sets, turn_stuck, walked_if, walk}
use Rattle.links.specs.Fill.{linked, begin_row, begun, step_words, step_last, step_stuck, filled_if, fill_from, fill_all}

-- both of two lists of words have one length
one-length : (b : Bool) (xs ys ws : List ℕ) → length xs ≡ length ws → length ys ≡ length ws → length (words_if b xs ys) ≡ length ws
one-length true xs ys ws p q = p
one-length false xs ys ws p q = q

from-length : (a b k c : ℕ) (ws : List ℕ) → length (or_from a b c k ws) ≡ length ws
unfolding or_from
from-length a b zero c ws = refl
from-length a b (suc k) c ws = from-length a b k (suc c) (or_at ws a b c ws) ∙ or-at-length ws a b c ws

put-length : (p u : ℕ) (ws : List ℕ) → length (put_bit p u ws) ≡ length ws
unfolding put_bit
put-length p u ws =
    let w = with_bit (get_or ws (place p u) 0) (p % 64) in
    one-length (in_table p u) (set ws (place p u) w) ws ws (length-set ws (place p u) w) refl

row-length : (p u : ℕ) (ws : List ℕ) → length (or_row p u ws) ≡ length ws
unfolding or_row
row-length p u ws =
    one-length ((ltb p u && ltb u 1024) && leb 8704 (length ws)) (or_from (row_start u) (row_start p) 0 (p / 64 + 1) ws) ws ws
    (from-length (row_start u) (row_start p) (p / 64 + 1) 0 ws) refl

linked-length : (p u : ℕ) (ws : List ℕ) → length (linked p u ws) ≡ length ws
unfolding linked
linked-length p u ws = one-length (eqb p 0 || eqb u 0) ws (or_row (p - 1) (u - 1) ws) ws refl (row-length (p - 1) (u - 1) ws)

module _ (tr : List Record) (ranks : ℕ → ℕ) where
  turn-length : (e u : ℕ) (r : Record) (ws sets : List ℕ) → length (turn_words ranks e u r ws sets) ≡ length ws
  unfolding turn_words behind
  turn-length e u r ws sets =
      let t = ranks r.second in
      let b = missing t u || bit_of ws (t - 1) (u - 1) in
      let row = or_row (t - 1) (u - 1) ws in
      one-length (hits ranks e u r ws sets) (words_if b ws row) ws ws (one-length b ws row ws refl (row-length (t - 1) (u - 1) ws)) refl

  walk-length : (e u j : ℕ) (ws sets : List ℕ) → length (walk tr ranks e u j ws sets).words ≡ length ws
  unfolding walk
  walk-length e u zero ws sets = refl
  walk-length e u (suc j) ws sets =
      go (turn_stuck ranks e u (at tr j) ws sets) (walk-length e u j (turn_words ranks e u (at tr j) ws sets) (turn_sets ranks e u (at tr j) ws sets))
    where
      turned : List ℕ
      turned = turn_words ranks e u (at tr j) ws sets

      go : (b : Bool) → length (walk tr ranks e u j turned (turn_sets ranks e u (at tr j) ws sets)).words ≡ length turned
          → length (walked_if b (record { words = turned; stuck = true }) (walk tr ranks e u j turned (turn_sets ranks e u (at tr j) ws sets))).words ≡ length ws
      go true f = turn-length e u (at tr j) ws sets
      go false f = f ∙ turn-length e u (at tr j) ws sets

  begin-length : (e u from : ℕ) (ws : List ℕ) → length (begin_row tr ranks e u from ws).words ≡ length ws
  unfolding begin_row
  begin-length e u from ws = go (eqb u 0)
    where
      own : List ℕ
      own = put_bit (u - 1) (u - 1) ws

      go : (b : Bool) → length (walked_if b (record { words = ws; stuck = false }) (walk tr ranks e u from own (zeros 64))).words ≡ length ws
      go true = refl
      go false = walk-length e u from own (zeros 64) ∙ put-length (u - 1) (u - 1) ws

  step-length : (i : ℕ) (ws last : List ℕ) → length (step_words tr ranks i ws last) ≡ length ws
  unfolding step_words begun
  step-length i ws last =
      let r = at tr i in
      let x = ranks r.first in
      let y = ranks r.second in
      let row = (begin_row tr ranks r.first x (get_or last r.first 0) ws).words in
      let started = words_if (starts r) (linked x y ws) ws in
      let joined = words_if (is_join r) (linked y x ws) started in
      one-length (is_begin r) row joined ws (begin-length r.first x (get_or last r.first 0) ws)
      (one-length (is_join r) (linked y x ws) started ws (linked-length y x ws) (one-length (starts r) (linked x y ws) ws ws (linked-length x y ws) refl))

  fill-length : (k i : ℕ) (ws last : List ℕ) → length (fill_from tr ranks i k ws last).words ≡ length ws
  unfolding fill_from
  fill-length zero i ws last = refl
  fill-length (suc k) i ws last =
      go (step_stuck tr ranks i ws last) (fill-length k (suc i) (step_words tr ranks i ws last) (step_last tr ranks i ws last))
    where
      stepped : List ℕ
      stepped = step_words tr ranks i ws last

      go : (b : Bool) → length (fill_from tr ranks (suc i) k stepped (step_last tr ranks i ws last)).words ≡ length stepped
          → length (filled_if b (record { stop = i; words = stepped }) (fill_from tr ranks (suc i) k stepped (step_last tr ranks i ws last))).words ≡ length ws
      go true f = step-length i ws last
      go false f = f ∙ step-length i ws last

pub all-length : (tr : List Record) → length (fill_all tr).words ≡ 8704
unfolding fill_all
all-length tr = fill-length tr _ (length tr) 0 (zeros 8704) (zeros 1025) ∙ zeros-length 8704
