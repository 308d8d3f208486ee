use borrow.Author.Tests.{eq-eqb, ne_eqb}
use Rattle.trace.specs.Rule.{early}
use Rattle.trace.proofs.rule.is_early.Goals as goal

pub returns-then-r-ne4 : goal.returns-then-r-ne4
unfolding early
returns-then-r-ne4 c = simp (ne_eqb _ _ c.if-r-ne4.true)

pub returns : goal.returns
unfolding early
returns c = simp (eq-eqb _ _ c.if-r-ne4.false)
