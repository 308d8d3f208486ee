use Rattle.records.specs.Search.{may_race}
use lib.Dec.{eqb}
use mathlib.Core.Bool.{not}
use Rattle.races.proofs.EntryStores.{Writing}
use Prim.Native.Nat.{◌-◌, ◌<◌, ◌≤◌}
use lib.Dec.{T}
use Rattle.records.specs.Bytes.{decode}
use Rattle.races.proofs.lists.list_range.Given as goal

abbrev pub invariant-loop-a : goal.invariant-loop-a
invariant-loop-a g l = Writing (not (eqb g.row.WRITING 0)) (decode l.filled.layout.recs.now) l.b l.firsts.from l.k l.initial.list l.list l.e l.a × (l.a ≤ l.firsts.to) × (l.a < l.firsts.to → T (may_race (decode l.filled.layout.recs.now) l.least l.c.0 l.a))

abbrev pub decreases-loop-a : goal.decreases-loop-a
decreases-loop-a g l = l.firsts.to - l.a
