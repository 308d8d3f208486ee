use borrow.Author.Tests.{eq-eqb, ne_eqb}
use Rattle.trace.specs.Reply.{demand}
use Rattle.trace.proofs.scan.finish.Goals as goal

pub returns-then-now_in-ne0 : goal.returns-then-now_in-ne0
unfolding demand
returns-then-now_in-ne0 c = simp (c.at.ensures, ne_eqb _ _ c.if-now_in-ne0.true)

pub returns-then-found-events : goal.returns-then-found-events
unfolding demand
returns-then-found-events c = simp (c.at-then-found-events.ensures, eq-eqb _ _ c.if-now_in-ne0.false, ne_eqb _ _ c.if-found-events.true)

pub returns : goal.returns
unfolding demand
returns c = simp (eq-eqb _ _ c.if-now_in-ne0.false, eq-eqb _ _ c.if-found-events.false)
