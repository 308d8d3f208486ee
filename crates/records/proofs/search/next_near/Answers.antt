use native.Mathlib.Omega.{arith}
use mathlib.Core.Path.{◌≡◌, refl, sym, ◌∙◌}
use Rattle.records.proofs.SearchLaws.{past-none, past_more, next_here, next-none}
use Rattle.records.proofs.search.next_near.Goals as goal

pub loop-i-init : goal.loop-i-init
loop-i-init c = (c.requires.0, past-none _ _ _ _)

pub returns-then-may_race : goal.returns-then-may_race
returns-then-may_race c = next_here _ _ _ refl c.loop-i.invariant.0 c.loop-i.invariant.1 (sym c.may_race.ensures ∙ c.if-may_race.true)

pub loop-i-preserved : goal.loop-i-preserved
loop-i-preserved c = (omega (arith, c.loop-i-test.true), past_more _ _ _ refl c.loop-i.invariant.1 (sym c.may_race.ensures ∙ c.if-may_race.false))

pub returns : goal.returns
returns c =
    let e : c.loop-i.i ≡ c.args.to = omega (arith, c.loop-i.invariant.0, c.loop-i-test.false) in
    next-none _ _ _ (omega arith) (rw e at c.loop-i.invariant.1)
