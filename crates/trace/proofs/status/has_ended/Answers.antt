use Rattle.trace.specs.loops.Status.{has_ended}
use Rattle.trace.proofs.status.has_ended.Goals as goal

pub returns : goal.returns
unfolding has_ended
returns c = simp c.get.ensures
