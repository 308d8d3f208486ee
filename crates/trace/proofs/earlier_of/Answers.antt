use borrow.Author.Tests.{lt-leb, le-leb}
use Rattle.trace.specs.Reply.{demand}
use Rattle.trace.specs.Plain.{earlier}
use Rattle.trace.proofs.earlier_of.Goals as goal

pub returns-then-blocked-first : goal.returns-then-blocked-first
unfolding earlier demand
returns-then-blocked-first c = simp (c.at.ensures, lt-leb _ _ c.if-blocked-first.true)

pub returns : goal.returns
unfolding earlier demand
returns c = simp (le-leb _ _ c.if-blocked-first.false)
