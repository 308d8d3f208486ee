use Prim.Native.Nat.{◌≤◌}
use mathlib.Core.Path.{◌≡◌}
use Rattle.clocks.specs.Rows.{clear_rows}
use Rattle.clocks.proofs.clear_rows.Given as goal

abbrev pub invariant-loop-u : goal.invariant-loop-u
invariant-loop-u l = (l.u ≤ l.rows) × (l.clocks ≡ clear_rows l.width l.u l.initial.clocks)
