use Rattle.slices.specs.Slices.{filled}
use Rattle.bits.proofs.clear.Goals as goal

pub returns : goal.returns
unfolding filled
returns c = c.fill.ensures.after (λ y h. h)
