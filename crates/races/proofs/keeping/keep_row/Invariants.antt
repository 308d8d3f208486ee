use Prim.Native.Nat.{◌≤◌, ◌<◌}
use mathlib.Core.Path.{◌≡◌}
use lib.ListN.{length}
use Rattle.races.specs.loops.Keeping.{Kept, MayKeep}
use Rattle.races.proofs.keeping.keep_row.Given as goal

abbrev pub invariant-loop-t : goal.invariant-loop-t
invariant-loop-t l = MayKeep l.layout.chosen.now l.layout.events l.layout.width l.clocks × (l.u < l.layout.events) × (l.t ≤ l.u) × Kept l.layout.chosen.now l.layout.width l.clocks l.u l.t l.table × (length l.table ≡ length l.initial.table)
