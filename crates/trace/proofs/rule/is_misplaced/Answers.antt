use borrow.Author.Tests.{eq-eqb, ne_eqb}
use Rattle.trace.specs.Rule.{misplaced}
use Rattle.trace.proofs.rule.is_misplaced.Goals as goal

pub returns-then-next-eq4 : goal.returns-then-next-eq4
unfolding misplaced
returns-then-next-eq4 c = simp (← c.requires, eq-eqb _ _ c.if-next-eq4.true)

pub returns-then-situation-eq0 : goal.returns-then-situation-eq0
unfolding misplaced
returns-then-situation-eq0 c = simp (← c.requires, ne_eqb _ _ c.if-next-eq4.false, eq-eqb _ _ c.if-situation-eq0.true)

pub returns : goal.returns
unfolding misplaced
returns c =
    let start = c in
    simp (← start.requires, ne_eqb _ _ c.if-next-eq4.false, ne_eqb _ _ c.if-situation-eq0.false)
