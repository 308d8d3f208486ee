use borrow.Author.Tests.{lt-leb, le-leb}
use Rattle.trace.proofs.scan.or_send.Goals as goal

pub returns-then-kind-lt16 : goal.returns-then-kind-lt16
returns-then-kind-lt16 c = simp (lt-leb _ _ c.if-kind-lt16.true)

pub returns-then-kind-gt19 : goal.returns-then-kind-gt19
returns-then-kind-gt19 c = simp (le-leb _ _ c.if-kind-lt16.false, lt-leb _ _ c.if-kind-gt19.true)

pub returns : goal.returns
returns c = simp (le-leb _ _ c.if-kind-lt16.false, le-leb _ _ c.if-kind-gt19.false)
