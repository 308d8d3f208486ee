use native.Mathlib.Omega.{arith}
use Rattle.listing.proofs.Decimal.{length-one, length_more, some-digit, twenty-digits}
use Rattle.listing.proofs.width.Goals as goal

pub overflow_add-digits : goal.overflow_add-digits
overflow_add-digits c =
    omega (arith, some-digit c.loop-rest.rest, twenty-digits c.args.n (omega arith))

pub loop-rest-preserved : goal.loop-rest-preserved
loop-rest-preserved c = omega (arith, length_more c.loop-rest.rest c.loop-rest-test.true)

pub returns : goal.returns
returns c =
    omega (arith, length-one c.loop-rest.rest (omega arith), twenty-digits c.args.n (omega arith))
