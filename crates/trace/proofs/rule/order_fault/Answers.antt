use Rattle.trace.proofs.rule.order_fault.Goals as goal

pub returns-then-is_again : goal.returns-then-is_again
returns-then-is_again c = simp (← c.is_again.ensures, c.if-is_again.true)

pub returns-then-is_early : goal.returns-then-is_early
returns-then-is_early c = simp (← c.is_again.ensures, c.if-is_again.false, ← c.is_early.ensures, c.if-is_early.true)

pub returns : goal.returns
returns c = simp (← c.is_again.ensures, c.if-is_again.false, ← c.is_early.ensures, c.if-is_early.false)
