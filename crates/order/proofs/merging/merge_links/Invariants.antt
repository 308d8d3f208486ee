use Prim.Native.Nat.{◌-◌, ◌≤◌, max}
use mathlib.Core.Path.{◌≡◌}
use lib.ListN.{length}
use Rattle.records.specs.Bytes.{decode}
use Rattle.order.specs.loops.Walk.{walk, ordering_by, walk_from}
use Rattle.order.proofs.merging.merge_links.Given as goal

abbrev pub invariant-loop-i : goal.invariant-loop-i
invariant-loop-i l =
    (l.n ≡ length (decode l.recs)) × (length l.clocks ≡ length l.initial.clocks)
    × (walk (ordering_by (decode l.recs) l.ranks) l.width l.chains (l.n - l.i) l.i l.clocks ≡ walk_from (decode l.recs) l.ranks l.width l.chains l.from l.initial.clocks) × (l.i ≤ max l.first l.n)
