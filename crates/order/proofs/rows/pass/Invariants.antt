use Rattle.order.proofs.PassLaws.{Going}
use Rattle.records.specs.Bytes.{decode}
use lib.ListN.{length}
use mathlib.Core.Path.{◌≡◌}
use Prim.Native.Nat.{◌-◌}
use Rattle.order.proofs.rows.pass.Given as goal

abbrev pub invariant-loop-i : goal.invariant-loop-i
invariant-loop-i l =
    Going (decode l.recs) l.width l.ranks l.initial.clocks l.clocks l.sizes l.chosen l.chains l.u l.i × (length l.clocks ≡ length l.initial.clocks) × (length l.sizes ≡ length l.initial.sizes) × (length l.chosen ≡ length l.initial.chosen)

abbrev pub decreases-loop-i : goal.decreases-loop-i
decreases-loop-i l = l.n - l.i
