use mathlib.Core.Path.{◌≡◌}
use lib.ListN.{length}
use Rattle.bits.specs.Table.{bit_of}
use Rattle.order.specs.Links.{Links}
use Rattle.order.specs.loops.FromTable.{Tells}
use Rattle.order.proofs.FillTable.{Going}
use Rattle.order.proofs.from_table.make_rows.Given as goal

abbrev pub invariant-loop-u : goal.invariant-loop-u
invariant-loop-u l =
    ((ls : Links) → Tells (bit_of l.table) l.events ls → Going (bit_of l.table) l.events l.width l.initial.clocks ls l.clocks l.sizes l.chosen l.chains l.u)
    × (length l.clocks ≡ length l.initial.clocks) × (length l.sizes ≡ length l.initial.sizes) × (length l.chosen ≡ length l.initial.chosen)
