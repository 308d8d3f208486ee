use Prim.Native.Nat.{◌+◌, ◌-◌, ◌≤◌}
use lib.ListN.{length}
use Rattle.records.specs.Bytes.{decode}
use Rattle.races.specs.loops.Raising.{place_at, by_records, MayGo}
use Rattle.races.proofs.GoLaws.{Going}
use Rattle.races.proofs.raising.walk_on.Given as goal

abbrev pub invariant-loop-t : goal.invariant-loop-t
invariant-loop-t l =
    MayGo (decode l.layout.recs.now) l.layout.chosen.now l.layout.width l.initial.clocks l.fn.s.row l.fn.s.position l.u × Going (by_records l.layout.chosen.now l.layout.width (decode l.layout.recs.now) l.layout.ranks.now) (place_at l.fn.s.row l.fn.s.position l.fn.s.chains l.initial.clocks) l.u l.t l.i l.chains l.clocks
    × (l.i ≤ length (decode l.layout.recs.now) + (l.t - l.fn.s.row))
