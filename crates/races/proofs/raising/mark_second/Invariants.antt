use mathlib.Core.Path.{◌≡◌}
use Prim.Native.Nat.{◌+◌, ◌*◌}
use lib.ListN.{get_or}
use Rattle.records.specs.Bytes.{decode}
use Rattle.races.proofs.SecondLaws.{MarkingSecond}
use Rattle.races.proofs.raising.mark_second.Given as goal

abbrev pub invariant-loop-e : goal.invariant-loop-e
invariant-loop-e l = MarkingSecond (decode l.layout.recs.now) l.initial.list l.k l.count l.list l.e × (l.second ≡ get_or l.initial.list (5 * l.k + 1) 0)
