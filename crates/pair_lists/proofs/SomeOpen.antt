-- Each list of pair structs of a trace with any race has an entry marked open.
-- Assumes nothing.
use Prim.Native.Nat.{ℕ}
use mathlib.Core.Path.{refl}
use mathlib.Core.List.{List}
use Rattle.races.proofs.ThirdDemand.{acceptable}
use Rattle.races.proofs.SomeOpen.{list-opens}
use Rattle.pair_lists.specs.declared.Pair.{Pair}
use Rattle.pair_lists.specs.Demand.{Calls, Names}
use Rattle.pair_lists.specs.SomeOpen.{SomeOpen}
use Rattle.pair_lists.proofs.ThirdDemand.{third-demand}

-- an entry called open is one of its cell marked open
called-named : (pairs : List Pair) (count x b : ℕ) → Calls pairs count x b 1 → (cell : ℕ) × Names pairs count cell
called-named pairs count x b c = (_, record { index = c.index; inside = c.inside; of_cell = refl; open_mark = c.marked })

pub some-open : SomeOpen
some-open = record {
  lists = λ bytes t e short width clocks clocks' work work' list list' pairs pairs' r s p.
      list-opens (acceptable bytes t e) short (Calls pairs') (Names pairs') (called-named pairs') r
      (third-demand.lists bytes t e short width clocks clocks' work work' list list' pairs pairs' r s p);
}
