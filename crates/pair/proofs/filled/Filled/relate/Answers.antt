use native.Mathlib.Omega.{arith}
use Rattle.races.proofs.FilledLaws.{chosen-length}
use Rattle.pair.proofs.filled.Filled.relate.Goals as goal

pub bounds-self-t : goal.bounds-self-t
bounds-self-t c = omega (arith, c.requires.0, chosen-length c.args.self.filled)

pub bounds-self-u : goal.bounds-self-u
bounds-self-u c = omega (arith, c.requires.1, chosen-length c.args.self.filled)
