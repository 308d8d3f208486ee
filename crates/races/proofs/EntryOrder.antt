-- The entries of the lists by place: which pairs they are, and in which order.
-- Assumes nothing.
use Prim.Native.Nat.{ℕ, zero, suc, ◌<◌}
use mathlib.Core.Path.{◌≡◌, refl, ap}
use mathlib.Core.Bool.{Bool, true, false, ◌&&◌}
use mathlib.Core.List.{List, [], ◌∷◌, Memᴰ}
use native.Mathlib.Omega.{arith}
use lib.Dec.{T}
use lib.ListN.{length, get_or}
use Rattle.records.specs.declared.Record.{Record}
use Rattle.trace.specs.Reading.{Acceptable}
use Rattle.coverage.specs.Below.{Listed, Sooner, Ordered}
use Rattle.coverage.specs.Race.{Race, raceb}
use Rattle.coverage.specs.Neighbours.{neighbour}
use Rattle.coverage.specs.loops.Whole.{Edges, taken}
use Rattle.slices.proofs.Tests.{both, and}
use Rattle.coverage.proofs.Order.{race-of, of-race}
use Rattle.coverage.proofs.Short.{neighbour-iff}
use Rattle.coverage.proofs.Pairs.{all-ordered, short-ordered, in_all, in-short}
use Rattle.races.specs.Traces.{cells_of, setting_of}
use Rattle.races.specs.Lists.{pairs_of}
use Rattle.races.proofs.DemandLaws.{place_of, at_place}
use Rattle.races.proofs.CoverNumbers.{Tested, taken-short, taken-all}

-- what a pair of records must pass to stand in the short list, or in the list of all races
unfoldable pub stands_in_list : List Record → Bool → ℕ → ℕ → Bool
stands_in_list tr true c d = neighbour (cells_of tr) c d && raceb (setting_of tr) c d
stands_in_list tr false c d = raceb (setting_of tr) c d

-- an ordered list, by place
ordered_at : (ps : List (ℕ × ℕ)) → Ordered ps → (i j : ℕ) → i < j → j < length ps → Sooner (get_or ps i (0, 0)) (get_or ps j (0, 0))
ordered_at [] o i j l h = absurd (omega arith)
ordered_at (p ∷ ps) o i zero l h = absurd (omega arith)
ordered_at (p ∷ ps) o zero (suc j) l h = o.0 (get_or ps j (0, 0)) (member ps j (omega arith))
  where
    member : (qs : List (ℕ × ℕ)) (k : ℕ) → k < length qs → Memᴰ (get_or qs k (0, 0)) qs
    member [] k m = absurd (omega arith)
    member (q ∷ qs) zero m = Memᴰ.head refl
    member (q ∷ qs) (suc k) m = Memᴰ.tail (member qs k (omega arith))
ordered_at (p ∷ ps) o (suc i) (suc j) l h = ordered_at ps o.1 i j (omega arith) (omega arith)

module _ (tr : List Record) (short : Bool) where
  -- first and second record of the entry at a place
  abbrev pub first_at : ℕ → ℕ
  first_at i = (get_or (pairs_of tr short) i (0, 0)).0

  abbrev pub second_of_entry : ℕ → ℕ
  second_of_entry i = (get_or (pairs_of tr short) i (0, 0)).1

  abbrev pub size : ℕ
  size = length (pairs_of tr short)

  pub in_order : (i j : ℕ) → i < j → j < size → Sooner (get_or (pairs_of tr short) i (0, 0)) (get_or (pairs_of tr short) j (0, 0))
  unfolding pairs_of
  in_order = ordered_at (pairs_of tr short) (go short)
    where
      go : (s : Bool) → Ordered (pairs_of tr s)
      go true = short-ordered (setting_of tr) (cells_of tr)
      go false = all-ordered (setting_of tr)

  -- a pair stands in the list exactly where it passes
  passes : (c d : ℕ) → Listed c d (pairs_of tr short) → T (stands_in_list tr short c d)
  unfolding pairs_of stands_in_list
  passes c d m = go short m
    where
      go : (s : Bool) → Listed c d (pairs_of tr s) → T (stands_in_list tr s c d)
      go true m = let (n, r) = (in-short (setting_of tr) (cells_of tr) c d).0 m in and (neighbour (cells_of tr) c d) (raceb (setting_of tr) c d) ((neighbour-iff (cells_of tr) c d).1 n) (of-race (setting_of tr) c d r)
      go false m = of-race (setting_of tr) c d ((in_all (setting_of tr) c d).0 m)

  listed : (c d : ℕ) → T (stands_in_list tr short c d) → Listed c d (pairs_of tr short)
  unfolding pairs_of stands_in_list
  listed c d h = go short h
    where
      go : (s : Bool) → T (stands_in_list tr s c d) → Listed c d (pairs_of tr s)
      go true h = let (n, r) = both (neighbour (cells_of tr) c d) (raceb (setting_of tr) c d) h in (in-short (setting_of tr) (cells_of tr) c d).1 ((neighbour-iff (cells_of tr) c d).0 n, race-of (setting_of tr) c d r)
      go false h = (in_all (setting_of tr) c d).1 (race-of (setting_of tr) c d h)

  pub at-passes : (i : ℕ) → i < size → T (stands_in_list tr short (first_at i) (second_of_entry i))
  at-passes i h = passes (first_at i) (second_of_entry i) (at_place tr (pairs_of tr short) i h)

  pub passes_at : (c d : ℕ) → T (stands_in_list tr short c d) → (i : ℕ) × (i < size) × (first_at i ≡ c) × (second_of_entry i ≡ d)
  passes_at c d h =
      let (i, k, e) = place_of tr c d (pairs_of tr short) (listed c d h) in
      (i, k, ap (λ (p : ℕ × ℕ). p.0) e, ap (λ (p : ℕ × ℕ). p.1) e)

  pub list-race : (c d : ℕ) → T (stands_in_list tr short c d) → Race (setting_of tr) c d
  unfolding stands_in_list
  list-race c d h = go short h
    where
      go : (s : Bool) → T (stands_in_list tr s c d) → Race (setting_of tr) c d
      go true h = race-of (setting_of tr) c d (both (neighbour (cells_of tr) c d) (raceb (setting_of tr) c d) h).1
      go false h = race-of (setting_of tr) c d h

  -- the edges that raising takes
  abbrev pub edge : ℕ → ℕ → Bool
  edge c d = taken (setting_of tr) (cells_of tr) (stands_in_list tr short) c d

  pub list-edges : Acceptable tr → Edges (setting_of tr) (Tested tr (taken (setting_of tr) (cells_of tr) (stands_in_list tr short)))
  unfolding stands_in_list
  list-edges a = go short
    where
      go : (s : Bool) → Edges (setting_of tr) (Tested tr (taken (setting_of tr) (cells_of tr) (stands_in_list tr s)))
      go true = taken-short a
      go false = taken-all a
