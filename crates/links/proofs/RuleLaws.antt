-- The link rule, case by case. Assumes nothing.
use Prim.Native.Nat.{ℕ, zero, suc, ◌+◌, ◌-◌, ◌≤◌, ◌<◌}
use mathlib.Core.Path.{◌≡◌, refl, sym, ap, ap₂, ◌∙◌}
use mathlib.Core.Logic.{◌≢◌}
use mathlib.Core.Bool.{true, false}
use mathlib.Core.List.{List}
use native.Mathlib.Omega.{arith}
use native.Mathlib.Decide.{ℕ_discrete}
use lib.ListN.{length, get_or-eq_default}
use borrow.Author.Tests.{lt-ltb, le-ltb, lt-leb, eq-eqb, ne_eqb}
use Rattle.records.specs.declared.Record.{Record}
use Rattle.records.specs.Records.{no_record, at}
use Rattle.records.specs.Kinds.{is_send}
use Rattle.bits.specs.Table.{bit_of, or_row, member, or_set}
use Rattle.links.specs.Rule.{missing, behind, reach, sends, hits, turn_words, turn_sets, turn_stuck, Turned, walk}

-- behind a target
module _ (t u : ℕ) (ws : List ℕ) where
  pub missing-none : t ≡ 0 → true ≡ missing t u
  unfolding missing
  missing-none e = rw (eq-eqb t 0 e)

  pub missing-later : t ≢ 0 → u < t → true ≡ missing t u
  unfolding missing
  missing-later d h = rw (ne_eqb t 0 d, lt-ltb u t h)

  pub not-missing : t ≢ 0 → t ≤ u → false ≡ missing t u
  unfolding missing
  not-missing d h = rw (ne_eqb t 0 d, le-ltb u t h)

  pub behind-already : false ≡ missing t u → bit_of ws (t - 1) (u - 1) ≡ true → ws ≡ behind t u ws
  unfolding behind
  behind-already e h = rw (← e, h)

  pub behind-new : false ≡ missing t u → bit_of ws (t - 1) (u - 1) ≡ false → or_row (t - 1) (u - 1) ws ≡ behind t u ws
  unfolding behind
  behind-new e h = rw (← e, h)

pub reach-already : (l x : ℕ) (ws sets : List ℕ) → member sets l x ≡ true → sets ≡ reach l x ws sets
unfolding reach
reach-already l x ws sets h = rw h

pub reach-new : (l x : ℕ) (ws sets : List ℕ) → member sets l x ≡ false → or_set ws l x sets ≡ reach l x ws sets
unfolding reach
reach-new l x ws sets h = rw h

-- one turn
module _ (ranks : ℕ → ℕ) (e u : ℕ) (r : Record) (ws sets : List ℕ) where
  pub sends-none : is_send r ≡ false → sends ranks e u r ws sets ≡ false
  unfolding sends
  sends-none n = rw n

  pub sends-is : is_send r ≡ true → ranks r.first ≢ 0 → sends ranks e u r ws sets ≡ true
  unfolding sends
  sends-is s d = rw (s, ne_eqb (ranks r.first) 0 d)

  pub turn-none : sends ranks e u r ws sets ≡ false → Turned ranks e u r ws sets false ws sets
  unfolding turn_stuck turn_words turn_sets hits
  turn-none s = record { stuck_is = rw s; words_are = rw s; sets_are = rw s }

-- the walk
module _ (tr : List Record) (ranks : ℕ → ℕ) (e u : ℕ) (ws sets : List ℕ) where
  abbrev words : ℕ → List ℕ
  words j = turn_words ranks e u (at tr j) ws sets

  walk-suc : (j : ℕ) → turn_stuck ranks e u (at tr j) ws sets ≡ false
      → walk tr ranks e u j (words j) (turn_sets ranks e u (at tr j) ws sets) ≡ walk tr ranks e u (suc j) ws sets
  unfolding walk
  walk-suc j s = rw s

  stuck-suc : (j : ℕ) → turn_stuck ranks e u (at tr j) ws sets ≡ true → record { words = words j; stuck = true } ≡ walk tr ranks e u (suc j) ws sets
  unfolding walk
  stuck-suc j s = rw s

  pub walk-down : (j : ℕ) → 0 < j → turn_stuck ranks e u (at tr (j - 1)) ws sets ≡ false
      → walk tr ranks e u (j - 1) (words (j - 1)) (turn_sets ranks e u (at tr (j - 1)) ws sets) ≡ walk tr ranks e u j ws sets
  walk-down j h s = let q : suc (j - 1) ≡ j = omega arith in walk-suc (j - 1) s ∙ ap (λ (i : ℕ). walk tr ranks e u i ws sets) q

  pub walk-stuck : (j : ℕ) → 0 < j → turn_stuck ranks e u (at tr (j - 1)) ws sets ≡ true
      → record { words = words (j - 1); stuck = true } ≡ walk tr ranks e u j ws sets
  walk-stuck j h s = let q : suc (j - 1) ≡ j = omega arith in stuck-suc (j - 1) s ∙ ap (λ (i : ℕ). walk tr ranks e u i ws sets) q

  pub walk_end : (j : ℕ) → j ≤ 0 → record { words = ws; stuck = false } ≡ walk tr ranks e u j ws sets
  unfolding walk
  walk_end j h = let q : j ≡ 0 = omega arith in rw q

  -- past the last record it does nothing
  past-suc : (j : ℕ) → length tr ≤ j → walk tr ranks e u j ws sets ≡ walk tr ranks e u (suc j) ws sets
  past-suc j h =
      let k = ap (λ (r : Record). r.kind) (get_or-eq_default tr no_record h) in
      let low : (at tr j).kind < 16 = omega arith in
      let none : is_send (at tr j) ≡ false = rw (lt-leb 16 (at tr j).kind low) refl in
      let t = turn-none ranks e u (at tr j) ws sets (sends-none ranks e u (at tr j) ws sets none) in
      ap₂ (λ (a b : List ℕ). walk tr ranks e u j a b) t.words_are t.sets_are ∙ walk-suc j (sym t.stuck_is)

  walk-past : (n d : ℕ) → length tr ≤ n → walk tr ranks e u n ws sets ≡ walk tr ranks e u (d + n) ws sets
  walk-past n zero h = let q : 0 + n ≡ n = omega arith in rw q refl
  walk-past n (suc d) h = let q : suc d + n ≡ suc (d + n) = omega arith in rw q (walk-past n d h ∙ past-suc (d + n) (omega arith))

  -- so it may start at the last record
  pub walk-within : (j from : ℕ) → j ≤ from → (j ≢ from → j ≡ length tr) → walk tr ranks e u j ws sets ≡ walk tr ranks e u from ws sets
  walk-within j from l n = go (ℕ_discrete j from)
    where
      go : Dec (j ≡ from) → walk tr ranks e u j ws sets ≡ walk tr ranks e u from ws sets
      go (yes q) = ap (λ (i : ℕ). walk tr ranks e u i ws sets) q
      go (no d) =
          let k = n d in
          let q : from - j + j ≡ from = omega arith in
          walk-past j (from - j) (omega arith) ∙ ap (λ (i : ℕ). walk tr ranks e u i ws sets) q
