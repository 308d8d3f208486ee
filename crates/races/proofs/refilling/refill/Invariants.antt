use mathlib.Core.Path.{◌≡◌}
use lib.ListN.{length}
use Rattle.records.specs.Bytes.{decode}
use Rattle.races.specs.loops.Refilling.{Refillable}
use Rattle.races.proofs.RefillLaws.{Refilling}
use Rattle.races.proofs.refilling.refill.Given as goal

abbrev pub invariant-loop-u : goal.invariant-loop-u
invariant-loop-u l = (f : Refillable (decode l.layout.recs.now) l.layout.ranks.now l.layout.chosen.now l.layout.events l.layout.width l.initial.clocks) × Refilling f l.i l.u l.chains l.clocks × (length l.clocks ≡ length l.initial.clocks)
