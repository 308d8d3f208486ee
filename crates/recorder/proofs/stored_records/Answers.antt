use Rattle.recorder.specs.Recording.{held}
use native.Mathlib.Omega.{arith}
use borrow.Author.Rules.{rules}
use Rattle.recorder.proofs.stored_records.Goals as goal

pub returns : goal.returns
unfolding held
returns c = (search rules, omega (arith, c.min.ensures))
