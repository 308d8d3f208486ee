use Prim.Native.Nat.{◌-◌, ◌≤◌, max}
use mathlib.Core.Path.{◌≡◌}
use lib.ListN.{length}
use Rattle.records.specs.Bytes.{decode}
use Rattle.order.specs.loops.Walk.{fill_walk, ordering_by}
use Rattle.order.proofs.linking.pass_links.Given as goal

abbrev pub invariant-loop-i : goal.invariant-loop-i
invariant-loop-i l =
    (l.n ≡ length (decode l.recs)) × (length l.clocks ≡ length l.initial.clocks) × (length l.hints ≡ length l.initial.hints)
    × (fill_walk (ordering_by (decode l.recs) l.ranks) l.width l.chains (l.n - l.i) l.i l.clocks l.hints ≡ fill_walk (ordering_by (decode l.recs) l.ranks) l.width l.chains (length (decode l.recs) - l.from) l.from l.initial.clocks l.initial.hints) × (l.i ≤ max l.first l.n)
