use mathlib.Core.Path.{◌≡◌, refl, sym, ◌∙◌}
use native.Mathlib.Omega.{arith}
use borrow.Author.Tests.{eq-eqb, ne_eqb}
use Rattle.order.proofs.CountLaws.{first-hit, first-miss, first-over}
use Rattle.order.proofs.merge.choose_near.Goals as goal

pub loop-c-init : goal.loop-c-init
loop-c-init c = (omega arith, refl)

pub returns-then-clocks-a : goal.returns-then-clocks-a
returns-then-clocks-a c =
    let at-loop = c in
    sym (first-hit _ _ _ (omega arith) (eq-eqb _ _ c.if-clocks-a.true)) ∙ at-loop.loop-c.invariant.1

pub loop-c-preserved : goal.loop-c-preserved
loop-c-preserved c =
    let at-loop = c in
    (omega arith, sym (first-miss _ _ _ (omega arith) (ne_eqb _ _ c.if-clocks-a.false)) ∙ at-loop.loop-c.invariant.1)

pub returns : goal.returns
returns c =
    let e : c.args.chains ≡ c.loop-c.c = omega arith in
    e ∙ (sym (first-over _ _ _ (omega arith)) ∙ c.loop-c.invariant.1)
