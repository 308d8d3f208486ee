use Rattle.bits.specs.Table.{bit_of}
use Rattle.question.specs.loops.TableChains.{bit_chain}
use Rattle.order.specs.Chains.{first_from}
use lib.ListN.{get_or}
use mathlib.Core.Path.{◌≡◌}
use Prim.Native.Nat.{◌-◌, ◌≤◌}
use Rattle.question.proofs.from_table.chain_before.Given as goal

abbrev pub invariant-loop-c : goal.invariant-loop-c
invariant-loop-c l = (l.c ≤ l.members.chains) × (first_from (λ k. bit_of l.table (get_or l.members.lasts k 0) l.u) l.c (l.members.chains - l.c) ≡ bit_chain (bit_of l.table) l.members.lasts l.members.chains l.u)
