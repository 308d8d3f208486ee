use Prim.Native.Nat.{◌-◌, ◌≤◌}
use mathlib.Core.Path.{◌≡◌}
use Rattle.order.specs.Chains.{first_from}
use Rattle.order.specs.loops.Pass.{full_at, choose_in}
use Rattle.order.proofs.merge.choose.Given as goal

abbrev pub invariant-loop-c : goal.invariant-loop-c
invariant-loop-c l = (l.c ≤ l.chains) × (first_from (full_at l.a l.clocks l.sizes) l.c (l.chains - l.c) ≡ choose_in l.width l.u l.clocks l.sizes l.chains)

abbrev pub decreases-loop-c : goal.decreases-loop-c
decreases-loop-c l = l.chains - l.c
