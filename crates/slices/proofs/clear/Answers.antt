use Rattle.std.proofs.Common.{rules}
use native.Mathlib.Omega.{arith}
use Rattle.slices.proofs.Cleared.{overwritten-more, overwritten-all}
use Rattle.slices.proofs.clear.Goals as goal

pub loop-i-preserved : goal.loop-i-preserved
loop-i-preserved g c =
    overwritten-more c.args.items.now c.loop-i.invariant (search rules) (omega arith)

pub returns : goal.returns
returns g c = overwritten-all g.T.Zero.ZERO c.args.items.now c.args.count c.loop-i.invariant (omega (arith, c.loop-i-test.false))
