use Rattle.trace.specs.loops.Status.{has_begun}
use Rattle.trace.proofs.status.has_begun.Goals as goal

pub returns : goal.returns
unfolding has_begun
returns c = simp c.get.ensures
