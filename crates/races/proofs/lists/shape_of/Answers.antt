use Rattle.races.specs.Lists.{shape_of}
use borrow.Author.Tests.{eq-eqb, ne_eqb}
use Rattle.races.proofs.lists.shape_of.Goals as goal

pub returns-then-kind_at-ne6 : goal.returns-then-kind_at-ne6
unfolding shape_of
returns-then-kind_at-ne6 c = simp (← c.kind_at.ensures, ne_eqb _ _ c.if-kind_at-ne6.true)

pub returns-then-kind_at-eq6 : goal.returns-then-kind_at-eq6
unfolding shape_of
returns-then-kind_at-eq6 c = simp (← c.kind_at.ensures, eq-eqb _ _ c.if-kind_at-ne6.false, ← c.kind_at-else-kind_at-ne6.ensures, eq-eqb _ _ c.if-kind_at-eq6.true)

pub returns-else-kind_at-eq6 : goal.returns-else-kind_at-eq6
unfolding shape_of
returns-else-kind_at-eq6 c = simp (← c.kind_at.ensures, eq-eqb _ _ c.if-kind_at-ne6.false, ← c.kind_at-else-kind_at-ne6.ensures, ne_eqb _ _ c.if-kind_at-eq6.false)
