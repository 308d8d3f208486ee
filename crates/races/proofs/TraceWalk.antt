-- The walk along the links of an acceptable trace, from after a record on: the next begin, with the rows along.
-- Assumes nothing.
use Prim.Native.Nat.{ℕ, suc, ◌+◌, ◌-◌, ◌≤◌, ◌<◌}
use mathlib.Core.Path.{◌≡◌, ap, ◌∙◌, fun_ext}
use mathlib.Core.List.{List, ◌++◌}
use native.Mathlib.Omega.{arith}
use native.Mathlib.Numerals.{add-one}
use lib.ListN.{length, get_or}
use Rattle.records.specs.declared.Record.{Record}
use Rattle.records.specs.Records.{at}
use Rattle.trace.specs.Reading.{Acceptable}
use Rattle.ranks.specs.Ranks.{ranks_of}
use Rattle.ranks.specs.OrderingOf.{ordering_of}
use Rattle.order.specs.Clocks.{flat}
use Rattle.order.specs.loops.Standing.{begins}
use Rattle.order.specs.loops.RecordLinks.{ordering_at}
use Rattle.order.specs.loops.Walk.{walk_from, ordering_by}
use Rattle.order.proofs.RecordOrder.{ops-ordered, link-target}
use Rattle.order.proofs.RankLaws.{ops-are}
use Rattle.order.proofs.WalkLaws.{Along, Arrives, ZeroPast, walked}

module _ {tr : List Record} (a : Acceptable tr) (ranks : List ℕ) (are : ranks ≡ ranks_of tr) where
  ops : ordering_by tr ranks ≡ ordering_at tr
  ops = fun_ext (λ i. ap (λ (m : List ℕ). ordering_of (λ e. get_or m e 0) (at tr i)) are ∙ ops-are a i)

  module _ (B R : ℕ → ℕ → ℕ) (w chains : ℕ) (rest : List ℕ) (narrow : w ≤ 1024) where
    pub trace-walk :
        (i : ℕ) (rows : ℕ → ℕ → ℕ) (cs : List ℕ) → i < length tr → cs ≡ flat w (begins (ordering_at tr) (length tr)) rows ++ rest → Along (ordering_at tr) B R (suc i) rows →
        ZeroPast (ordering_at tr) R w chains (suc i) → Arrives (ordering_at tr) (length tr) B R w rest (suc i) (walk_from tr ranks w chains (i + 1) cs)
    unfolding walk_from
    trace-walk i rows cs h e f s = rw (ops, add-one i) (walked (ordering_at tr) (length tr) (ops-ordered a) (link-target a) B R w chains narrow rest (length tr - suc i) (suc i) rows cs (omega arith) e f s)
