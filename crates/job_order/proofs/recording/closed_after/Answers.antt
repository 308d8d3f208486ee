use borrow.Author.Tests.{eq-eqb, ne_eqb}
use Rattle.job_order.proofs.recording.closed_after.Goals as goal

pub returns-then-before-eq0 : goal.returns-then-before-eq0
returns-then-before-eq0 c = simp (c.if-now.true, eq-eqb _ _ c.if-before-eq0.true)

pub returns-then-now : goal.returns-then-now
returns-then-now c = simp (c.if-now.true, ne_eqb _ _ c.if-before-eq0.false)
