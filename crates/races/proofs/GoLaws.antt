-- Going on from row to row, as a loop makes it.
-- Assumes nothing.
use Prim.Native.Nat.{ℕ, zero, suc, ◌+◌, ◌-◌, ◌≤◌, ◌<◌, max}
use mathlib.Core.Path.{◌≡◌, refl, sym, ap, ◌∙◌}
use mathlib.Core.Bool.{Bool, true, false}
use mathlib.Core.List.{List}
use native.Mathlib.Omega.{arith}
use native.Mathlib.Nat.{mul-le-mul_right}
use lib.ListN.{length, get_or}
use Rattle.records.specs.declared.Record.{Record}
use Rattle.records.specs.Kinds.{has_send}
use Rattle.ranks.specs.declared.Ordering.{Ordering}
use Rattle.order.specs.loops.Walk.{Walked, stops, merged_with, walk_on, walk, ordering_by, walk_from}
use Rattle.races.specs.loops.Leading.{lead_in, MayLead}
use Rattle.races.specs.loops.Raising.{Place, place_at, by_records, by_clocks, onward_by, onward, goes, Went}

-- the walk ends no later than the records
walk-position : (op : ℕ → Ordering) (w chains k i : ℕ) (cs : List ℕ) → (walk op w chains k i cs).position ≤ i + k
unfolding walk
walk-position op w chains zero i cs = omega arith
walk-position op w chains (suc k) i cs = go (stops (op i)) (walk-position op w chains k (suc i) (merged_with w chains (op i) cs))
  where
    go : (b : Bool) → (walk op w chains k (suc i) (merged_with w chains (op i) cs)).position ≤ suc i + k → (walk_on b i (merged_with w chains (op i) cs) (walk op w chains k (suc i))).position ≤ i + suc k
    go true h = omega arith
    go false h = omega arith

pub walk_inside : (tr : List Record) (ranks : List ℕ) (w chains i n r : ℕ) (clocks clocks' : List ℕ) → walk_from tr ranks w chains (i + 1) clocks ≡ record { position = r; clocks = clocks' } → i ≤ length tr + n → r ≤ length tr + (n + 1)
unfolding walk_from
walk_inside tr ranks w chains i n r clocks clocks' e h = omega (arith, ap (λ (x : Walked). x.position) e, walk-position (ordering_by tr ranks) w chains (length tr - (i + 1)) (i + 1) clocks)

-- one row on
module _ (chosen : List ℕ) (w t i chains : ℕ) (clocks : List ℕ) (chains' : ℕ) (c : chains' ≡ max chains (get_or chosen (t + 1) 0 + 1)) (clocks' : List ℕ) where
  pub by-records : (tr : List Record) (ranks : List ℕ) (r : ℕ) → walk_from tr ranks w chains (i + 1) clocks ≡ record { position = r; clocks = clocks' } → by_records chosen w tr ranks (place_at t i chains clocks) ≡ place_at (t + 1) r chains' clocks'
  unfolding by_records
  by-records tr ranks r e = rw c (ap (λ (x : Walked). place_at (t + 1) x.position (max chains (get_or chosen (t + 1) 0 + 1)) x.clocks) e)

  pub by-clocks : clocks' ≡ lead_in chosen w chains (t + 1) clocks → by_clocks chosen w (place_at t i chains clocks) ≡ place_at (t + 1) i chains' clocks'
  unfolding by_clocks
  by-clocks e = rw (c, e) refl

-- rows up to an earlier one stand in the clocks too
pub may-before : {chosen : List ℕ} {w : ℕ} {clocks : List ℕ} {u : ℕ} → MayLead chosen w clocks u → (t : ℕ) → t ≤ u → MayLead chosen w clocks t
may-before {w = w} m t h = let r = m.room in record { known = omega (arith, m.known); low = omega (arith, m.low); narrow = m.narrow; room = omega (arith, mul-le-mul_right w h); chains_fit = λ p k. m.chains_fit p (omega arith) }

module _ (on : Place → Place) (s : Place) (u : ℕ) where
  pub record Going (t i chains : ℕ) (clocks : List ℕ) : Type 0 where
    pub from : s.row ≤ t
    pub to : t ≤ u
    pub size : length clocks ≡ length s.clocks
    pub same : goes on (u - t) (place_at t i chains clocks) ≡ goes on (u - s.row) s

  pub going_start : s.row ≤ u → Going s.row s.position s.chains s.clocks
  going_start h = record { from = omega arith; to = h; size = refl; same = refl }

  module _ {t i chains : ℕ} {clocks : List ℕ} (g : Going t i chains clocks) where
    pub going_next : t < u → (r chains' : ℕ) (clocks' : List ℕ) → on (place_at t i chains clocks) ≡ place_at (t + 1) r chains' clocks' → length clocks' ≡ length clocks → Going (t + 1) r chains' clocks'
    unfolding goes
    going_next h r chains' clocks' e l = record { from = omega (arith, g.from); to = omega arith; size = l ∙ g.size; same = sym next ∙ g.same }
      where
        more : u - t ≡ suc (u - (t + 1))
        more = omega arith

        next : goes on (u - t) (place_at t i chains clocks) ≡ goes on (u - (t + 1)) (place_at (t + 1) r chains' clocks')
        next = rw more (ap (goes on (u - (t + 1))) e)

    pub going_end : u ≤ t → Went on s.row s.position s.chains s.clocks u t i chains clocks
    unfolding goes
    going_end h = let z : u - t ≡ 0 = omega arith in record { goes_on = sym (rw z at g.same) }

-- with a send, or without one
module _ (tr : List Record) (ranks chosen : List ℕ) (w : ℕ) {row position chains : ℕ} {clocks : List ℕ} {u row' position' chains' : ℕ} {clocks' : List ℕ} where
  pub went-by : (b : Bool) → b ≡ has_send tr → Went (onward_by chosen w b tr ranks) row position chains clocks u row' position' chains' clocks' → Went (onward tr ranks chosen w) row position chains clocks u row' position' chains' clocks'
  went-by b e h = rw (← e) h
