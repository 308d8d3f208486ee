-- The third demand holds of the lists as pair structs.
-- Assumes nothing.
use Prim.Native.Nat.{ℕ, ◌*◌, ◌<◌}
use mathlib.Core.Path.{◌≡◌, refl, sym, ap, ◌∙◌}
use mathlib.Core.Bool.{Bool}
use mathlib.Core.List.{List, [], ◌++◌, map}
use mathlib.Core.Logic.{◌↔◌}
use native.Mathlib.Omega.{arith}
use native.Mathlib.Nat.{add-zero}
use lib.ListN.{length, get_or, drop, length-map, get_or-append}
use Rattle.records.specs.declared.Record.{Record}
use Rattle.records.specs.declared.Trace.{Trace}
use Rattle.trace.specs.Reply.{unless}
use Rattle.trace.specs.Reading.{records_in, Accepts}
use Rattle.trace.proofs.Accepted.{records-read}
use Rattle.std.proofs.Common.{Result}
use Rattle.trace.specs.declared.Refusal.{Refusal}
use Rattle.races.specs.declared.Summary.{Summary}
use Rattle.races.specs.Lists.{pairs_of, numbers}
use Rattle.races.specs.Demand as over-numbers
use Rattle.races.specs.Demand.{ListSuffices, ListAnswers}
use Rattle.races.proofs.ThirdDemand.{made, made-answer, acceptable, list-demand, alike}
use Rattle.pair_lists.specs.declared.Pair.{Pair}
use Rattle.pair_lists.specs.Pairs.{no_pair, pair_of, space, pairs_after, PairLists}
use Rattle.pair_lists.specs.loops.Copying.{pair_at}
use Rattle.pair_lists.specs.Demand.{Calls, Names, PairListSuffices, ThirdDemand}
use Rattle.pair_lists.proofs.CopyLaws.{entry-says}

module _ (tr : List Record) (ps : List (ℕ × ℕ)) (rest : List Pair) where
  -- the pairs, and their numbers
  abbrev structs : List Pair
  structs = map (pair_of tr) ps ++ rest

  abbrev flat : List ℕ
  flat = numbers tr ps ++ []

  says : (i : ℕ) → i < length ps → get_or structs i no_pair ≡ pair_at flat i
  says i h =
      let k : i < length (map (pair_of tr) ps) = omega (arith, length-map ps (pair_of tr)) in
      get_or-append (map (pair_of tr) ps) rest no_pair i k ∙ sym (entry-says tr [] ps i k)

  calls-alike : (a b mark : ℕ) → over-numbers.Calls flat (length ps) a b mark ↔ Calls structs (length ps) a b mark
  calls-alike a b mark = (
    λ c. let e = says c.index c.inside in record {
      index = c.index;
      inside = c.inside;
      first = ap (λ (p : Pair). p.first.0) e ∙ rw (add-zero (5 * c.index)) at c.first;
      second = ap (λ (p : Pair). p.second.0) e ∙ c.second;
      marked = ap (λ (p : Pair). p.mark) e ∙ c.marked;
    },
    λ c. let e = sym (says c.index c.inside) in record {
      index = c.index;
      inside = c.inside;
      first = rw (add-zero (5 * c.index)) (ap (λ (p : Pair). p.first.0) e ∙ c.first);
      second = ap (λ (p : Pair). p.second.0) e ∙ c.second;
      marked = ap (λ (p : Pair). p.mark) e ∙ c.marked;
    },
  )

  names-alike : (cell : ℕ) → over-numbers.Names flat (length ps) cell ↔ Names structs (length ps) cell
  names-alike cell = (
    λ c. let e = says c.index c.inside in record {
      index = c.index;
      inside = c.inside;
      of_cell = ap (λ (p : Pair). p.cell.0) e ∙ c.of_cell;
      open_mark = ap (λ (p : Pair). p.mark) e ∙ c.open_mark;
    },
    λ c. let e = sym (says c.index c.inside) in record {
      index = c.index;
      inside = c.inside;
      of_cell = ap (λ (p : Pair). p.cell.0) e ∙ c.of_cell;
      open_mark = ap (λ (p : Pair). p.mark) e ∙ c.open_mark;
    },
  )

-- both spaces suffice, so that of the list over numbers does
enough : {tr : List Record} (short : Bool) {width clocks work : ℕ} (list pairs : ℕ) → PairListSuffices tr short width clocks work list pairs
    → ListSuffices tr short width clocks work (space list pairs)
enough short list pairs s = record {
  some_width = s.some_width;
  narrow = s.narrow;
  clock-space = s.clock-space;
  work-space = s.work-space;
  enough-chains = s.enough-chains;
  list-space = omega (arith, s.list-space);
}

module _ (bytes : List ℕ) (t : Trace) (e : Accepts bytes t) where
  abbrev tr : List Record
  tr = records_in bytes t

  lists : (short : Bool) (width : ℕ) (clocks clocks' work work' list list' : List ℕ) (pairs pairs' : List Pair) (r : Result Summary Refusal)
      → PairListSuffices tr short width (length clocks) (length work) (length list) (length pairs)
      → PairLists short bytes width clocks clocks' work work' list list' pairs pairs' r → ListAnswers tr short (Calls pairs') (Names pairs') r
  unfolding pairs_after unless
  lists short width clocks clocks' work work' list list' pairs pairs' r s p =
      let ps = pairs_of tr short in
      let k = enough short (length list) (length pairs) s in
      let q = made bytes t e width (length clocks) (length work) (space (length list) (length pairs)) short k in
      let l = drop (length ps) pairs in
      record {
        summary = _;
        is_made = made-answer r _ (p.answer ∙ q);
        counted = refl;
        demand = rw (rw (q, records-read bytes t e) at p.pairs-after)
            (alike (calls-alike tr ps l) (names-alike tr ps l) (list-demand (acceptable bytes t e) short []));
      }

pub third-demand : ThirdDemand
third-demand = record { lists = lists }
