use Rattle.question.specs.loops.ChainPass.{marked_chain}
use Rattle.question.specs.loops.Marking.{marked}
use Rattle.order.specs.Chains.{first_from}
use lib.ListN.{get_or}
use mathlib.Core.Path.{◌≡◌}
use Prim.Native.Nat.{◌-◌, ◌≤◌}
use Rattle.question.proofs.chains.marked_chain.Given as goal

abbrev pub invariant-loop-c : goal.invariant-loop-c
invariant-loop-c l = (l.c ≤ l.members.chains) × (first_from (λ k. marked l.marks (get_or l.members.lasts k 0)) l.c (l.members.chains - l.c) ≡ marked_chain l.marks l.members.lasts l.members.chains)
