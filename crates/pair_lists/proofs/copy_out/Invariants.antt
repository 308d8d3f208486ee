use Prim.Native.Nat.{◌≤◌}
use mathlib.Core.Path.{◌≡◌}
use Rattle.pair_lists.specs.loops.Copying.{puts}
use Rattle.pair_lists.proofs.copy_out.Given as goal

abbrev pub invariant-loop-i : goal.invariant-loop-i
invariant-loop-i l = (l.i ≤ l.n) × (l.pairs ≡ puts l.initial.pairs l.numbers l.i)
