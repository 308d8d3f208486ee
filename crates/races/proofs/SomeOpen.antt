-- A trace with any race has an open one, and each list has an entry marked open: from `some-open` and the third demand.
-- Assumes nothing.
use Prim.Native.Nat.{ℕ, ◌<◌}
use mathlib.Core.Path.{refl}
use mathlib.Core.Bool.{Bool, true, false}
use mathlib.Core.List.Memᴰ
use mathlib.Core.List.{List, [], ◌∷◌}
use native.Mathlib.Omega.{arith}
use lib.ListN.{length}
use Rattle.records.specs.declared.Record.{Record}
use Rattle.records.specs.Records.{at}
use Rattle.trace.specs.Reading.{Acceptable}
use Rattle.coverage.specs.Below as below
use Rattle.coverage.specs.Race.{Race}
use Rattle.coverage.proofs.Theorems as coverage
use Rattle.std.proofs.Common.{Result}
use Rattle.trace.specs.declared.Refusal.{Refusal}
use Rattle.races.specs.declared.Summary.{Summary}
use Rattle.races.specs.Traces.{cells_of, setting_of}
use Rattle.races.specs.Lists.{pairs_of}
use Rattle.races.specs.Demand.{Calls, Names, ListDemand, ListAnswers}
use Rattle.races.specs.SomeOpen.{AnyRace, OpenRace, ListOpens, SomeOpen}
use Rattle.races.proofs.Instance.{laws}
use Rattle.races.proofs.ThirdDemand.{acceptable, lists-demand}

-- what has entries has one
listed-first : (ps : List (ℕ × ℕ)) → 0 < length ps → (a b : ℕ) × below.Listed a b ps
listed-first [] h = absurd (omega arith)
listed-first ((a, b) ∷ ps) h = (a, b, Memᴰ.head refl)

module _ {tr : List Record} (a : Acceptable tr) where
  pub open-race : AnyRace tr → OpenRace tr
  open-race (x, b, r) = coverage.some-open (setting_of tr) (laws a) x b r

  -- the pairs of both lists are races
  listed-race : (short : Bool) (x b : ℕ) → below.Listed x b (pairs_of tr short) → Race (setting_of tr) x b
  unfolding pairs_of
  listed-race true x b m = ((coverage.in-short (setting_of tr) (cells_of tr) x b).0 m).1
  listed-race false x b m = (coverage.in_all (setting_of tr) x b).0 m

  entry-race : (short : Bool) → 0 < length (pairs_of tr short) → AnyRace tr
  entry-race short h = let (x, b, m) = listed-first (pairs_of tr short) h in (x, b, listed-race short x b m)

  -- A list that the third demand holds of has an entry marked open.
  module _ (calls : ℕ → ℕ → ℕ → Type 0) (names : ℕ → Type 0) (named : (x b : ℕ) → calls x b 1 → (cell : ℕ) × names cell) where
    open-entry : (short : Bool) → ListDemand tr short calls names → OpenRace tr → (cell : ℕ) × names cell
    open-entry true d (x, b, r, o) = ((at tr b).second, (d.cells refl (at tr b).second).1 (x, b, r, refl, o))
    open-entry false d (x, b, r, o) = let (mark, c) = d.whole refl x b r in named x b ((d.marks x b mark r c).uncovered.1 o)

  pub list-opens : (short : Bool) (calls : ℕ → ℕ → ℕ → ℕ → Type 0) (names : ℕ → ℕ → Type 0) → ((n x b : ℕ) → calls n x b 1 → (cell : ℕ) × names n cell)
      → (r : Result Summary Refusal) → ListAnswers tr short calls names r → ListOpens tr names r
  list-opens short calls names named r s =
      let n = s.summary.count in
      let f : AnyRace tr → (cell : ℕ) × names n cell = λ o. open-entry (calls n) (names n) (named n) short s.demand (open-race o) in
      record {
        summary = s.summary;
        is_made = s.is_made;
        any_race = f;
        any_listed = λ h. f (entry-race false h);
        any_entry = λ h. f (entry-race short (omega (arith, s.counted)));
      }

-- an entry called open is one of its cell marked open
called-named : (list : List ℕ) (count x b : ℕ) → Calls list count x b 1 → (cell : ℕ) × Names list count cell
called-named list count x b c = (_, record { index = c.index; inside = c.inside; of_cell = refl; open_mark = c.marked })

pub some-open : SomeOpen
some-open = record {
  traces = λ bytes t e. open-race (acceptable bytes t e);
  lists = λ bytes t e short width clocks clocks' work work' list list' r s p.
      list-opens (acceptable bytes t e) short (Calls list') (Names list') (called-named list') r
      (lists-demand.lists bytes t e short width clocks clocks' work work' list list' r s p);
}
