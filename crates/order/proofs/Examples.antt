-- Trace T up to its third begin: three event actions, of which the first starts the other two. What the walk along the links leaves. Assumes nothing.
use Prim.Native.Nat.{ℕ}
use mathlib.Core.Path.{◌≡◌, refl}
use mathlib.Core.List.{[], ◌∷◌}
use lib.Dec.{lit<, lit≤}
use lib.ListN.{get_or}
use Rattle.ranks.specs.declared.Ordering.{Ordering}
use Rattle.ranks.specs.declared.Ordering.TheVariants.{Link, Begin, Nothing}
use Rattle.order.specs.loops.Standing.{begins, Ordered}
use Rattle.order.specs.loops.Walk.{walk, fill_walk}
use Rattle.clocks.specs.Rows.{has_row, reach, merge_at, merge_from, merge_row, span, clear_past, copy_at, copy_from, copy_row}
use Rattle.order.proofs.ScheduleLaws.{ordered-zero, ordered-suc}

-- the records of T up to the third begin
abbrev pub records : ℕ → Ordering
records i = get_or (Begin 0 ∷ Link 0 1 ∷ Link 0 2 ∷ Nothing ∷ Begin 1 ∷ Nothing ∷ Nothing ∷ Nothing ∷ Begin 2 ∷ []) i Nothing

-- once the first has begun, the walk merges its row into the other two, and stops at the second begin
merged_on : walk records 2 1 8 1 (1 ∷ 0 ∷ 0 ∷ 0 ∷ 0 ∷ 0 ∷ []) ≡ record { position = 4; clocks = 1 ∷ 0 ∷ 1 ∷ 0 ∷ 1 ∷ 0 ∷ [] }
unfolding walk merge_row merge_from merge_at reach has_row
merged_on = refl

-- so does the walk that fills, whatever the other two held, and both are to look for a chain from chain 0 on
copied_on : fill_walk records 2 1 8 1 (1 ∷ 0 ∷ 7 ∷ 7 ∷ 7 ∷ 7 ∷ []) (0 ∷ 0 ∷ 0 ∷ []) ≡ record { position = 4; clocks = 1 ∷ 0 ∷ 1 ∷ 0 ∷ 1 ∷ 0 ∷ []; hints = 0 ∷ 1024 ∷ 1024 ∷ [] }
unfolding fill_walk copy_row copy_from copy_at span clear_past has_row
copied_on = refl

-- they stand in order
stand : Ordered records 9
unfolding begins
stand =
    ordered-suc records 8
    (ordered-suc records 7 (ordered-suc records 6 (ordered-suc records 5 (ordered-suc records 4
    (ordered-suc records 3 (ordered-suc records 2 (ordered-suc records 1 (ordered-suc records 0 (ordered-zero records) refl)
    (lit< tt, lit≤ tt)) (lit< tt, lit≤ tt)) tt) refl) tt) tt) tt) refl
