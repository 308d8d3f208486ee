-- The test of an event that is to begin, case by case. Assumes nothing.
use Prim.Native.Nat.{ℕ, suc, ◌+◌, ◌-◌, ◌≤◌, ◌<◌}
use mathlib.Core.Path.{◌≡◌, refl, sym, ap, ap₂, ◌∙◌}
use mathlib.Core.Logic.{◌≢◌}
use mathlib.Core.Bool.{Bool, true, false}
use mathlib.Core.List.{List}
use native.Mathlib.Omega.{arith}
use borrow.Author.Tests.{lt-ltb, le-ltb, eq-eqb, ne_eqb}
use lib.ListN.{length}
use Rattle.slices.specs.Slices.{zeros}
use Rattle.records.specs.declared.Record.{Record}
use Rattle.records.specs.Records.{at, past, begins}
use Rattle.ranks.specs.Ranks.{ranks_of}
use Rattle.bits.specs.Table.{put_bit}
use Rattle.records.specs.Kinds.{is_send}
use Rattle.links.specs.Rule.{rank_in, walk}
use Rattle.links.specs.Fill.{fill_from}
use Rattle.links.specs.Begin.{send_to, last_send, may_turn, may_sent, Mayed, may, table_blocked, begin_blocked}

module _ (e : ℕ) (r : Record) where
  pub to_none : is_send r ≡ false → false ≡ send_to e r
  unfolding send_to
  to_none s = rw s

  pub to-it : is_send r ≡ true → r.second ≡ e → true ≡ send_to e r
  unfolding send_to
  to-it s q = rw (s, eq-eqb r.second e q)

-- one turn
module _ (ranks : ℕ → ℕ) (e : ℕ) (r : Record) (sent : List ℕ) where
  pub may_none : is_send r ≡ false → Mayed ranks e r sent false sent
  unfolding may_turn may_sent send_to
  may_none s = record { found-is = rw s; sent_is = rw s }

-- on the way down
module _ (tr : List Record) (ranks : ℕ → ℕ) (e : ℕ) (sent : List ℕ) where
  down-suc : (j : ℕ) → may_turn ranks e (at tr j) sent ≡ false → may tr ranks e j (may_sent ranks e (at tr j) sent) ≡ may tr ranks e (suc j) sent
  unfolding may
  down-suc j s = rw s

  stop-suc : (j : ℕ) → may_turn ranks e (at tr j) sent ≡ true → true ≡ may tr ranks e (suc j) sent
  unfolding may
  stop-suc j s = rw s

  pub may-down : (j : ℕ) → 0 < j → may_turn ranks e (at tr (j - 1)) sent ≡ false
      → may tr ranks e (j - 1) (may_sent ranks e (at tr (j - 1)) sent) ≡ may tr ranks e j sent
  may-down j h s = let q : suc (j - 1) ≡ j = omega arith in down-suc (j - 1) s ∙ ap (λ (i : ℕ). may tr ranks e i sent) q

  pub may-stop : (j : ℕ) → 0 < j → may_turn ranks e (at tr (j - 1)) sent ≡ true → true ≡ may tr ranks e j sent
  may-stop j h s = let q : suc (j - 1) ≡ j = omega arith in stop-suc (j - 1) s ∙ ap (λ (i : ℕ). may tr ranks e i sent) q

  pub may-end : (j : ℕ) → j ≤ 0 → false ≡ may tr ranks e j sent
  unfolding may
  may-end j h = let q : j ≡ 0 = omega arith in rw q

module _ (tr : List Record) (e : ℕ) where
  last-suc : (j : ℕ) → send_to e (at tr j) ≡ false → last_send tr e j ≡ last_send tr e (suc j)
  unfolding last_send
  last-suc j s = rw s

  here-suc : (j : ℕ) → send_to e (at tr j) ≡ true → suc j ≡ last_send tr e (suc j)
  unfolding last_send
  here-suc j s = rw s

  pub last-down : (j : ℕ) → 0 < j → send_to e (at tr (j - 1)) ≡ false → last_send tr e (j - 1) ≡ last_send tr e j
  last-down j h s = let q : suc (j - 1) ≡ j = omega arith in last-suc (j - 1) s ∙ ap (last_send tr e) q

  pub last-here : (j : ℕ) → 0 < j → send_to e (at tr (j - 1)) ≡ true → j ≡ last_send tr e j
  last-here j h s = let q : suc (j - 1) ≡ j = omega arith in let k : j ≡ suc (j - 1) = omega arith in k ∙ here-suc (j - 1) s ∙ ap (last_send tr e) q

  pub last_end : (j : ℕ) → j ≤ 0 → 0 ≡ last_send tr e j
  unfolding last_send
  last_end j h = let q : j ≡ 0 = omega arith in rw q

module _ (tr : List Record) (ranks : ℕ → ℕ) (from e u : ℕ) where
  pub no_room : 1023 < u → false ≡ table_blocked tr ranks from e u
  unfolding table_blocked
  no_room h = rw (lt-ltb 1023 u h)

  pub by-table : u ≤ 1023
      → (walk tr ranks e (u + 1) from (put_bit u u (fill_from tr ranks 0 (length tr) (zeros 8704) (zeros 1025)).words) (zeros 64)).stuck
      ≡ table_blocked tr ranks from e u
  unfolding table_blocked
  by-table h = rw (le-ltb 1023 u h)

-- the whole, where last send and ranks are told
module _ (tr : List Record) (e from : ℕ) (all : List ℕ) (last-is : from ≡ last_send tr e (length tr)) where
  pub blocked-none : from ≡ 0 → false ≡ begin_blocked tr e
  unfolding begin_blocked
  blocked-none z = rw (eq-eqb (last_send tr e (length tr)) 0 (sym last-is ∙ z))

  module _ (some : from ≢ 0) (ranks_are : all ≡ ranks_of tr) where
    abbrev mays : Bool
    mays = may tr (rank_in (ranks_of tr)) e (last_send tr e (length tr)) (zeros 4)

    mays-is : may tr (rank_in all) e from (zeros 4) ≡ mays
    mays-is = ap₂ (λ (f : List ℕ) (n : ℕ). may tr (rank_in f) e n (zeros 4)) ranks_are last-is

    some' : last_send tr e (length tr) ≢ 0
    some' z = some (last-is ∙ z)

    pub blocked-free : may tr (rank_in all) e from (zeros 4) ≡ false → false ≡ begin_blocked tr e
    unfolding begin_blocked
    blocked-free m = rw (ne_eqb (last_send tr e (length tr)) 0 some', sym mays-is ∙ m)

    pub blocked-told : may tr (rank_in all) e from (zeros 4) ≡ true → (u : ℕ) → u ≡ begins (past tr (length tr))
        → table_blocked tr (rank_in all) from e u ≡ begin_blocked tr e
    unfolding begin_blocked
    blocked-told m u q =
        ap (table_blocked tr (rank_in all) from e) q
        ∙ ap₂ (λ (f : List ℕ) (n : ℕ). table_blocked tr (rank_in f) n e (begins (past tr (length tr)))) ranks_are last-is
        ∙ rw (ne_eqb (last_send tr e (length tr)) 0 some', sym mays-is ∙ m) refl
