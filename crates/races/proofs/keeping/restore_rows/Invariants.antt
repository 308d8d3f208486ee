use mathlib.Core.Path.{◌≡◌}
use lib.ListN.{length}
use Rattle.bits.specs.Table.{bit_of}
use Rattle.races.specs.loops.Keeping.{Restorable}
use Rattle.races.proofs.RestoreLaws.{Restoring}
use Rattle.races.proofs.keeping.restore_rows.Given as goal

abbrev pub invariant-loop-u : goal.invariant-loop-u
invariant-loop-u l =
    Restorable (bit_of l.table) l.layout.events l.layout.width l.layout.chosen.now l.initial.clocks × ((f : Restorable (bit_of l.table) l.layout.events l.layout.width l.layout.chosen.now l.initial.clocks) → Restoring f l.u l.clocks)
    × (length l.clocks ≡ length l.initial.clocks)
