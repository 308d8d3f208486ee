use mathlib.Core.Path.{◌∙◌}
use borrow.Author.Tests.{lt-leb, le-leb}
use Rattle.trace.specs.Reply.{demand}
use Rattle.trace.specs.Reading.{frame_reply}
use Rattle.trace.proofs.frame.frame.Goals as goal

pub returns-then-n-lt-TRAILER_BYTES : goal.returns-then-n-lt-TRAILER_BYTES
unfolding frame_reply demand
returns-then-n-lt-TRAILER_BYTES c = simp (c.at.ensures, lt-leb _ _ c.if-n-lt-TRAILER_BYTES.true)

pub returns : goal.returns
unfolding frame_reply demand
returns c = c.trailer.ensures ∙ simp (le-leb _ _ c.if-n-lt-TRAILER_BYTES.false, c.distance_at.ensures)
