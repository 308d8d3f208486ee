use Rattle.trace.specs.Reading.{distance}
use Rattle.trace.proofs.frame.distance_at.Goals as goal

pub returns : goal.returns
unfolding distance
returns c = simp (c.two.ensures, c.two-2.ensures)
