use Rattle.std.proofs.Common.{rules}
use Rattle.races.specs.loops.Leading.{raise_to}
use Rattle.races.proofs.leading.raise_to.Goals as goal

pub returns : goal.returns
unfolding raise_to
returns c = search rules
