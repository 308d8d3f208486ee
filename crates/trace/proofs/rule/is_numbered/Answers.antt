use borrow.Author.Tests.{lt-leb, le-leb}
use Rattle.trace.specs.Rule.{numbered}
use Rattle.trace.proofs.rule.is_numbered.Goals as goal

pub returns-then-x-lt1 : goal.returns-then-x-lt1
unfolding numbered
returns-then-x-lt1 c = simp (lt-leb _ _ c.if-x-lt1.true)

pub returns : goal.returns
unfolding numbered
returns c = simp (le-leb _ _ c.if-x-lt1.false)
