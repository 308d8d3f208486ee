use Rattle.bits.specs.Table.{bit_of}
use Rattle.order.specs.Links.{Links}
use Rattle.order.specs.loops.FromTable.{Tells}
use Rattle.question.proofs.TableChainLaws.{Going}
use Rattle.question.proofs.from_table.enter_rows.Given as goal

abbrev pub invariant-loop-u : goal.invariant-loop-u
invariant-loop-u l =
    (ls : Links) → Tells (bit_of l.table) l.events ls → Going (bit_of l.table) l.events l.asked.first l.asked.second l.asked.width ls l.members l.u
