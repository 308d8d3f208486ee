use Prim.Native.Nat.{◌≤◌}
use mathlib.Core.Path.{◌≡◌}
use Rattle.bits.specs.Table.{bit_of}
use Rattle.order.specs.loops.FromTable.{take_before}
use Rattle.order.proofs.from_table.take_before.Given as goal

abbrev pub invariant-loop-t : goal.invariant-loop-t
invariant-loop-t l = (l.t ≤ l.u) × (l.clocks ≡ take_before (λ t. bit_of l.table t l.u) l.width l.u l.chosen l.t l.initial.clocks)
