use native.Mathlib.Omega.{arith}
use Rattle.compactor.proofs.CompactLaws.{few-slim, fits_whole, fits-counted}
use Rattle.compactor.proofs.fits.Goals as goal

pub overflow_mul-count : goal.overflow_mul-count
overflow_mul-count c = omega (arith, c.count.ensures, c.requires.few)

pub overflow_add-count : goal.overflow_add-count
overflow_add-count c = omega (arith, c.count.ensures, c.requires.few)

pub returns-then-count-out : goal.returns-then-count-out
returns-then-count-out c =
    let start = c in
    fits_whole start.requires c.count.ensures c.if-count-out.true

pub pass-kept-requires : goal.pass-kept-requires
pass-kept-requires c =
    let start = c in
    (start.requires, λ z. absurd z)

pub overflow_mul-result : goal.overflow_mul-result
overflow_mul-result c =
    let at-pass = c in
    omega (arith, at-pass.pass-kept.ensures.count, few-slim at-pass.requires)

pub overflow_add-result : goal.overflow_add-result
overflow_add-result c =
    let at-pass = c in
    omega (arith, at-pass.pass-kept.ensures.count, few-slim at-pass.requires)

pub returns : goal.returns
returns c = fits-counted c.pass-kept.ensures
