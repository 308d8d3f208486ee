-- Filling, case by case. Assumes nothing.
use Prim.Native.Nat.{ℕ, suc, ◌+◌, ◌-◌, ◌%◌, ◌≤◌, ◌<◌}
use mathlib.Core.Path.{◌≡◌}
use mathlib.Core.Logic.{◌≢◌}
use mathlib.Core.Bool.{Bool, true, false}
use mathlib.Core.List.{List}
use native.Mathlib.Omega.{arith}
use borrow.Author.Tests.{eq-eqb, ne_eqb}
use lib.ListN.{set}
use Rattle.slices.specs.Slices.{zeros}
use Rattle.records.specs.declared.Record.{Record}
use Rattle.records.specs.Records.{at}
use Rattle.records.specs.Kinds.{is_send}
use Rattle.bits.specs.Table.{put_bit, or_row}
use Rattle.links.specs.Rule.{Leaves, walk}
use Rattle.links.specs.Fill.{linked, begin_row, begun, step_words, step_last, step_stuck, Stepped, fill_from}

module _ (p u : ℕ) (ws : List ℕ) where
  pub linked-to-none : p ≢ 0 → u ≡ 0 → ws ≡ linked p u ws
  unfolding linked
  linked-to-none d e = rw (ne_eqb p 0 d, eq-eqb u 0 e)

  pub linked-is : p ≢ 0 → u ≢ 0 → or_row (p - 1) (u - 1) ws ≡ linked p u ws
  unfolding linked
  linked-is d f = rw (ne_eqb p 0 d, ne_eqb u 0 f)

module _ (tr : List Record) (ranks : ℕ → ℕ) (e u from : ℕ) (ws : List ℕ) where
  pub begin-is : u ≢ 0 → walk tr ranks e u from (put_bit (u - 1) (u - 1) ws) (zeros 64) ≡ begin_row tr ranks e u from ws
  unfolding begin_row
  begin-is d = rw (ne_eqb u 0 d)

-- one record
module _ (tr : List Record) (ranks : ℕ → ℕ) (i : ℕ) (ws last : List ℕ) where
  abbrev r : Record
  r = at tr i

  pub step-begin : (b : Bool) (ws' : List ℕ) → r.kind ≡ 1 → Leaves (begun tr ranks i ws last) b ws' → Stepped tr ranks i ws last b ws' last
  unfolding step_stuck step_words step_last
  step-begin b ws' k h = record { stuck_is = rw k h.0; words_are = rw k h.1; last-is = rw k }

  pub step-join : (ws' : List ℕ) → r.kind ≡ 4 → ws' ≡ linked (ranks r.second) (ranks r.first) ws → Stepped tr ranks i ws last false ws' last
  unfolding step_stuck step_words step_last
  step-join ws' k h = record { stuck_is = rw k; words_are = rw k h; last-is = rw k }

  pub step-fork : (ws' : List ℕ) → r.kind ≡ 3 → ws' ≡ linked (ranks r.first) (ranks r.second) ws → Stepped tr ranks i ws last false ws' last
  unfolding step_stuck step_words step_last
  step-fork ws' k h = record { stuck_is = rw k; words_are = rw k h; last-is = rw k }

  pub step-other : r.kind ≢ 1 → r.kind ≢ 4 → r.kind ≢ 3 → is_send r ≡ false → Stepped tr ranks i ws last false ws last
  unfolding step_stuck step_words step_last
  step-other a b c n = record {
    stuck_is = rw (ne_eqb r.kind 1 a);
    words_are = rw (ne_eqb r.kind 1 a, ne_eqb r.kind 4 b, ne_eqb r.kind 3 c, n);
    last-is = rw n;
  }

  pub step-send : (ws' last' : List ℕ) → r.kind ≢ 1 → r.kind ≢ 4 → r.kind ≢ 3 → is_send r ≡ true
      → ws' ≡ linked (ranks r.first) (ranks r.second) ws → last' ≡ set last r.second ((i + 1) % 65536) → Stepped tr ranks i ws last false ws' last'
  unfolding step_stuck step_words step_last
  step-send ws' last' a b c s f g = record {
    stuck_is = rw (ne_eqb r.kind 1 a);
    words_are = rw (ne_eqb r.kind 1 a, ne_eqb r.kind 4 b, ne_eqb r.kind 3 c, s) f;
    last-is = rw s g;
  }

-- the records in turn
module _ (tr : List Record) (ranks : ℕ → ℕ) (i n : ℕ) (ws last : List ℕ) where
  pub fill-next : i < n → step_stuck tr ranks i ws last ≡ false
      → fill_from tr ranks (i + 1) (n - (i + 1)) (step_words tr ranks i ws last) (step_last tr ranks i ws last) ≡ fill_from tr ranks i (n - i) ws last
  unfolding fill_from
  fill-next h s =
      let k : n - i ≡ suc (n - suc i) = omega arith in
      let j : i + 1 ≡ suc i = omega arith in
      rw (k, j, s)

  pub fill-stuck : i < n → step_stuck tr ranks i ws last ≡ true → record { stop = i; words = step_words tr ranks i ws last } ≡ fill_from tr ranks i (n - i) ws last
  unfolding fill_from
  fill-stuck h s = let k : n - i ≡ suc (n - suc i) = omega arith in rw (k, s)

  pub fill_end : n ≤ i → record { stop = i; words = ws } ≡ fill_from tr ranks i (n - i) ws last
  unfolding fill_from
  fill_end h = let k : n - i ≡ 0 = omega arith in rw k
