use Rattle.records.proofs.Leading.{leading-hit, leading-miss, leading-over}
use mathlib.Core.Path.{◌≡◌, refl, sym, ◌∙◌}
use native.Mathlib.Omega.{arith}
use Rattle.records.proofs.access.skip_last.Goals as goal

pub loop-at-init : goal.loop-at-init
loop-at-init c = (omega arith, refl)

pub returns-then-kind_at-lt5 : goal.returns-then-kind_at-lt5
returns-then-kind_at-lt5 c = sym (leading-hit _ _ _ (omega arith) (rw c.kind_at.ensures at c.if-kind_at-lt5.true)) ∙ c.loop-at.invariant.1

pub loop-at-preserved : goal.loop-at-preserved
loop-at-preserved c = (omega arith, sym (leading-miss _ _ _ (omega arith) (rw c.kind_at.ensures at c.if-kind_at-lt5.false)) ∙ c.loop-at.invariant.1)

pub returns : goal.returns
returns c =
    let e : c.loop-at.at ≡ c.args.n = omega arith in
    rw e at (sym (leading-over _ _ _ (omega arith)) ∙ c.loop-at.invariant.1)
