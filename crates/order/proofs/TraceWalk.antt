-- The walk along the links of an acceptable trace. Assumes nothing.
use Prim.Native.Nat.{ℕ, ◌-◌, ◌≤◌, ◌<◌}
use mathlib.Core.Path.{◌≡◌, subst, fun_ext}
use mathlib.Core.List.{List}
use native.Mathlib.Omega.{arith}
use lib.ListN.{length}
use Rattle.records.specs.declared.Record.{Record}
use Rattle.trace.specs.Reading.{Acceptable}
use Rattle.ranks.specs.Ranks.{ranks_of}
use Rattle.order.specs.loops.Standing.{begins}
use Rattle.order.specs.loops.Walk.{FillWalked, ordering_by, FillWalks}
use Rattle.order.specs.loops.RecordLinks.{ordering_at}
use Rattle.order.proofs.RecordOrder.{ops-ordered, link-target}
use Rattle.order.proofs.RankLaws.{ops-are}
use Rattle.order.proofs.WalkLaws.{ZeroPast}
use Rattle.order.proofs.HintLaws.{Hinted, Shows, FillArrives, fill-walked}

module _ {tr : List Record} (a : Acceptable tr) (ranks : List ℕ) (e : ranks ≡ ranks_of tr) where
  said : ordering_by tr ranks ≡ ordering_at tr
  said = fun_ext (λ i. rw e (ops-are a i))

  -- from record i on, where the clocks show the rows
  pub arrives :
      (R : ℕ → ℕ → ℕ) (C : ℕ → ℕ) (w chains : ℕ) (rest : List ℕ) (i : ℕ) (cs hs cs' hs' : List ℕ) (j : ℕ) (narrow : w ≤ 1024) → i ≤ length tr →
      Shows (ordering_at tr) (length tr) R w rest i hs cs → ZeroPast (ordering_at tr) R w chains i →
      Hinted (ordering_at tr) C i hs → ((q : ℕ) → q < begins (ordering_at tr) i → C q < 1024) → begins (ordering_at tr) (length tr) ≤ length hs →
      FillWalks tr ranks w chains i cs hs cs' hs' j →
      FillArrives (ordering_at tr) (length tr) (ops-ordered a) (link-target a) R C w chains narrow rest i hs (record { position = j; clocks = cs'; hints = hs' })
  arrives R C w chains rest i cs hs cs' hs' j narrow h f z t few room x =
      subst (λ (r : FillWalked). FillArrives (ordering_at tr) (length tr) (ops-ordered a) (link-target a) R C w chains narrow rest i hs r) (rw said at x)
      (fill-walked (ordering_at tr) (length tr) (ops-ordered a) (link-target a) R C w chains narrow rest (length tr - i) i cs hs (omega arith) f z t few room)
