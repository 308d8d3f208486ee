use Rattle.clocks.proofs.Places.{place-fits}
use native.Mathlib.Omega.{arith}
use Rattle.clocks.proofs.entry.Goals as goal

pub overflow_mul-u : goal.overflow_mul-u
overflow_mul-u c = let b = c in omega (arith, place-fits b.args.u b.args.width b.args.c b.ranges.u.fits b.ranges.width.fits b.ranges.c.fits)

pub overflow_add-u : goal.overflow_add-u
overflow_add-u c = let b = c in omega (arith, place-fits b.args.u b.args.width b.args.c b.ranges.u.fits b.ranges.width.fits b.ranges.c.fits)

pub returns : goal.returns
returns c = c.get.ensures
