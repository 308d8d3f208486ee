use Prim.Native.Nat.{◌+◌, ◌-◌, ◌≤◌}
use mathlib.Core.Path.{◌≡◌}
use lib.ListN.{length}
use Rattle.clocks.specs.Rows.{merge_from, merge_row}
use Rattle.clocks.proofs.merge_row.Given as goal

abbrev pub invariant-loop-c : goal.invariant-loop-c
invariant-loop-c l =
    (l.c ≤ l.entries) × (l.entries ≤ l.width) × (length l.clocks ≡ length l.initial.clocks) × (l.b + l.width ≤ l.a) × (l.a + l.width ≤ length l.initial.clocks) × (merge_from l.width l.p l.u l.c (l.entries - l.c) l.clocks ≡ merge_row l.width l.chains l.p l.u l.initial.clocks)
