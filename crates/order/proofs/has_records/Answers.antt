use Prim.Native.Nat.{◌<◌}
use borrow.Author.Tests.{le-leb, lt-leb}
use native.Mathlib.Omega.{arith}
use Rattle.order.specs.Prepare.{asked}
use Rattle.order.proofs.has_records.Goals as goal

pub returns-then-call-ge1 : goal.returns-then-call-ge1
unfolding asked
returns-then-call-ge1 c = rw (le-leb _ _ c.if-call-ge1.true)

pub returns-else-call-ge1 : goal.returns-else-call-ge1
unfolding asked
returns-else-call-ge1 c = let z : c.args.call.lowest.0 < 1 = omega arith in rw (lt-leb _ _ z)
