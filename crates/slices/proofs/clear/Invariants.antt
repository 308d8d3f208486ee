use Rattle.std.specs.Prelude.{◌≡◌, ◌++◌, drop, replicate}
use Rattle.slices.proofs.clear.Given as goal

abbrev pub invariant-loop-i : goal.invariant-loop-i
invariant-loop-i g l = l.items ≡ replicate l.i g.T.Zero.ZERO ++ drop l.i l.initial.items
