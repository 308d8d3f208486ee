use Prim.Native.Nat.{◌-◌, ◌≤◌}
use mathlib.Core.Path.{◌≡◌}
use Rattle.order.specs.Chains.{first_from}
use Rattle.order.specs.loops.Pass.{full_at}
use Rattle.order.proofs.merge.choose_near.Given as goal

abbrev pub invariant-loop-c : goal.invariant-loop-c
invariant-loop-c l = (l.c ≤ l.chains) × (first_from (full_at l.a l.clocks l.sizes) l.c (l.chains - l.c) ≡ first_from (full_at l.a l.clocks l.sizes) l.from (l.chains - l.from))
