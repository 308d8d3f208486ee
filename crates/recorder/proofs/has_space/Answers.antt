use Rattle.recorder.specs.Recording.{space}
use borrow.Author.Tests.{lt-ltb, le-ltb}
use Rattle.recorder.proofs.has_space.Goals as goal

pub returns-then-n-lt4096 : goal.returns-then-n-lt4096
unfolding space
returns-then-n-lt4096 c = simp (lt-ltb _ _ c.if-n-lt4096.true)

pub returns-else-n-lt4096 : goal.returns-else-n-lt4096
unfolding space
returns-else-n-lt4096 c = simp (le-ltb _ _ c.if-n-lt4096.false)
