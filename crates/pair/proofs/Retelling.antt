-- The arrangement that the pair question writes is the shortest one: from the third demand and `shortest`.
-- Assumes nothing.
use Prim.Native.Nat.{ℕ, ◌+◌}
use mathlib.Core.Path.{◌≡◌, ◌∙◌}
use mathlib.Core.Bool.{Bool, true, false}
use mathlib.Core.List.{List}
use native.Mathlib.Omega.{arith}
use lib.ListN.{length}
use Rattle.records.specs.declared.Trace.{Trace}
use Rattle.trace.specs.Reply.{gives}
use Rattle.trace.specs.Reading.{records_in, Accepts}
use Rattle.coverage.specs.Race.{Race}
use Rattle.coverage.specs.Leading.{entries}
use Rattle.coverage.proofs.Theorems.{shortest}
use Rattle.races.specs.Traces.{setting_of}
use Rattle.races.proofs.Instance.{laws}
use Rattle.races.proofs.ThirdDemand.{acceptable}
use Rattle.races.proofs.SomeOpen.{some-open}
use Rattle.std.proofs.Common.{Result, Ok}
use Rattle.trace.specs.declared.Refusal.{Refusal}
use Rattle.pair.specs.declared.Verdict.{Verdict}
use Rattle.pair.specs.declared.Verdict.TheVariants as pair
use Rattle.pair.specs.Pair.{is_open, answered, kept_entries, PairPromise}
use Rattle.pair.specs.Demand.{PairSuffices}
use Rattle.pair.specs.Retelling.{GivesShortest, ShortestRetelling}
use Rattle.pair.proofs.ThirdDemand.{answers-race, third-demand}

-- the number that an open answer gives is that of the entries
counted : (m : Bool) (k n : ℕ) → gives (is_open k) ≡ gives (answered m n) → k ≡ n
unfolding answered
counted true k n q = let z : ◌≡◌ {A = ℕ} 0 1 = cc in absurd (omega arith)
counted false k n q = cc

module _ (bytes : List ℕ) (t : Trace) (e : Accepts bytes t) where
  gives-shortest : (width : ℕ) (clocks clocks' work work' list list' : List ℕ) (a b : ℕ) (r : Result Verdict Refusal)
      → PairSuffices (records_in bytes t) width (length clocks) (length work) (length list) → Race (setting_of (records_in bytes t)) a b
      → PairPromise bytes width clocks clocks' work work' list list' (a + 1) (b + 1) r
      → (count : ℕ) → r ≡ Ok (pair.Open count) → GivesShortest (records_in bytes t) a b count list list'
  unfolding kept_entries
  gives-shortest width clocks clocks' work work' list list' a b r s race p count o =
      let d = third-demand.pairs bytes t e width clocks clocks' work work' list list' a b r s race p in
      let q = answers-race bytes t e width (length clocks) (length work) (length list) a b s race in
      record {
        kept = entries (setting_of (records_in bytes t)) b;
        shortest = shortest (setting_of (records_in bytes t)) (laws (acceptable bytes t e)) a b race (d.open_exactly.uncovered.0 (count, o));
        count-is = counted _ count _ (rw o at p.answer ∙ q);
        list_is = (d.arrangement count o).0;
      }

pub shortest-retelling : ShortestRetelling
shortest-retelling = record { pairs = gives-shortest; some-open = some-open }
