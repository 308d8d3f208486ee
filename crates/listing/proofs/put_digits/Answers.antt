use Prim.Native.Nat.{◌/◌}
use mathlib.Core.Path.{refl, ◌∙◌}
use native.Mathlib.Omega.{arith}
use lib.ListN.{length-set}
use Rattle.listing.proofs.Decimal.{length_more, some-digit}
use Rattle.listing.proofs.Store.{number-next, number-end}
use Rattle.listing.proofs.put_digits.Goals as goal

pub width-requires : goal.width-requires
width-requires c = tt

pub overflow_sub-i : goal.overflow_sub-i
overflow_sub-i c = omega (arith, some-digit c.args.n)

pub loop-rest-init : goal.loop-rest-init
loop-rest-init c =
    let some = some-digit c.args.n in
    (omega arith, omega arith, omega arith, refl)

pub overflow_sub-i-in-loop-rest : goal.overflow_sub-i-in-loop-rest
overflow_sub-i-in-loop-rest c = omega (arith, length_more c.loop-rest.rest c.loop-rest-test.true, some-digit (c.loop-rest.rest / 10))

pub loop-rest-preserved : goal.loop-rest-preserved
loop-rest-preserved c =
    let more = length_more c.loop-rest.rest c.loop-rest-test.true in
    let some = some-digit (c.loop-rest.rest / 10) in (
      omega arith,
      omega arith,
      simp length-set (omega arith),
      number-next _ _ _ _ c.loop-rest-test.true c.loop-rest.invariant.1 ∙ c.loop-rest.invariant.3,
    )

pub shape_of-out : goal.shape_of-out
shape_of-out c = simp length-set (omega arith)

pub returns : goal.returns
returns c =
    record {
      contents = number-end _ _ _ _ c.loop-rest-test.false c.loop-rest.invariant.1 ∙ c.loop-rest.invariant.3;
      size = refl;
      next = omega arith;
    }
