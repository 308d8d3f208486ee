use Prim.Native.Nat.{◌+◌, ◌-◌, ◌≤◌}
use mathlib.Core.Path.{◌≡◌}
use lib.ListN.{length}
use Rattle.clocks.specs.Rows.{span, copy_from}
use Rattle.clocks.proofs.copy_row.Given as goal

abbrev pub invariant-loop-c : goal.invariant-loop-c
invariant-loop-c l =
    (l.c ≤ l.entries) × (l.entries ≡ span l.width l.chains l.p) × (length l.clocks ≡ length l.initial.clocks) × (l.b + l.width ≤ l.a) × (l.a + l.width ≤ length l.initial.clocks) × (l.entries ≤ l.width)
    × (copy_from l.width l.p l.u l.c (l.entries - l.c) l.clocks ≡ copy_from l.width l.p l.u 0 l.entries l.initial.clocks)
