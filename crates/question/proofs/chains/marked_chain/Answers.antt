use Rattle.order.proofs.CountLaws.{first-hit, first-miss, first-over}
use Rattle.question.specs.loops.ChainPass.{marked_chain}
use native.Mathlib.Omega.{arith}
use mathlib.Core.Path.{◌≡◌, sym, ◌∙◌}
use Prim.Native.Nat.{◌-◌}
use Rattle.question.proofs.chains.marked_chain.Goals as goal

pub loop-c-init : goal.loop-c-init
unfolding marked_chain
loop-c-init c = (omega arith, let e : c.args.members.now.chains - 0 ≡ c.args.members.now.chains = omega arith in rw e)

pub returns-then-is_marked : goal.returns-then-is_marked
returns-then-is_marked c =
    let at-loop = c in
    sym (first-hit _ _ _ (omega arith) (sym c.is_marked.ensures ∙ c.if-is_marked.true)) ∙ at-loop.loop-c.invariant.1

pub loop-c-preserved : goal.loop-c-preserved
loop-c-preserved c =
    let at-loop = c in
    (omega arith, sym (first-miss _ _ _ (omega arith) (sym c.is_marked.ensures ∙ c.if-is_marked.false)) ∙ at-loop.loop-c.invariant.1)

pub returns : goal.returns
returns c =
    let e : c.args.members.now.chains ≡ c.loop-c.c = omega arith in
    e ∙ (sym (first-over _ _ _ (omega arith)) ∙ c.loop-c.invariant.1)
