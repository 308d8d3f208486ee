use Prim.Native.Nat.{◌≤◌}
use mathlib.Core.Path.{◌≡◌}
use lib.ListN.{length}
use Rattle.races.specs.loops.Keeping.{Kept, MayKeep}
use Rattle.races.proofs.keeping.keep_rows.Given as goal

abbrev pub invariant-loop-u : goal.invariant-loop-u
invariant-loop-u l =
    MayKeep l.layout.chosen.now l.layout.events l.layout.width l.clocks × (l.u ≤ l.layout.events) × Kept l.layout.chosen.now l.layout.width l.clocks l.u 0 l.table × (length l.table ≡ length l.initial.table)
