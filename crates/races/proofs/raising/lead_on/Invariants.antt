use Rattle.races.specs.loops.Leading.{MayLead}
use Rattle.races.specs.loops.Raising.{place_at, by_clocks}
use Rattle.races.proofs.GoLaws.{Going}
use Rattle.races.proofs.raising.lead_on.Given as goal

abbrev pub invariant-loop-t : goal.invariant-loop-t
invariant-loop-t l =
    MayLead l.layout.chosen.now l.layout.width l.initial.clocks l.u × Going (by_clocks l.layout.chosen.now l.layout.width) (place_at l.s.row l.s.position l.s.chains l.initial.clocks) l.u l.t l.s.position l.chains l.clocks
