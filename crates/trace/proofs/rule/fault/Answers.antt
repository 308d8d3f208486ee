use mathlib.Core.Path.{refl}
use Rattle.std.proofs.lemmas.Result.{err_from_is_err_and}
use Rattle.trace.proofs.Faults.{by_place, by_order}
use Rattle.trace.proofs.Reasons.{numbered}
use Rattle.trace.proofs.rule.fault.Goals as goal

pub returns-in_err-place_fault : goal.returns-in_err-place_fault
returns-in_err-place_fault c =
    let a = c.args in
    let p = err_from_is_err_and c.from_residual.result c.from_residual.ensures.1 in
    rw (p.1, p.2) (by_place a.situation a.owner.0 a.r a.past.first_begun a.past.second_begun a.past.second_ended (c.in_err-place_fault.ensures) (numbered _))

pub returns : goal.returns
returns c =
    let a = c.args in
    by_order a.situation a.owner.0 a.r a.past.first_begun a.past.second_begun a.past.second_ended (c.in_ok-place_fault.ensures) refl c.order_fault.ensures
