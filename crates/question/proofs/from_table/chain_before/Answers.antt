use Rattle.order.proofs.CountLaws.{first-hit, first-miss, first-over}
use Rattle.question.specs.loops.TableChains.{bit_chain}
use native.Mathlib.Omega.{arith}
use mathlib.Core.Path.{◌≡◌, sym, ◌∙◌}
use Prim.Native.Nat.{◌-◌}
use Rattle.question.proofs.from_table.chain_before.Goals as goal

pub loop-c-init : goal.loop-c-init
unfolding bit_chain
loop-c-init c = (omega arith, let e : c.args.members.now.chains - 0 ≡ c.args.members.now.chains = omega arith in rw e)

pub returns-then-get : goal.returns-then-get
returns-then-get c =
    let at-loop = c in
    sym (first-hit _ _ _ (omega arith) (sym c.get.ensures ∙ c.if-get.true)) ∙ at-loop.loop-c.invariant.1

pub loop-c-preserved : goal.loop-c-preserved
loop-c-preserved c =
    let at-loop = c in
    (omega arith, sym (first-miss _ _ _ (omega arith) (sym c.get.ensures ∙ c.if-get.false)) ∙ at-loop.loop-c.invariant.1)

pub returns : goal.returns
returns c =
    let e : c.args.members.now.chains ≡ c.loop-c.c = omega arith in
    e ∙ (sym (first-over _ _ _ (omega arith)) ∙ c.loop-c.invariant.1)
