use native.Mathlib.Omega.{arith}
use mathlib.Core.Path.{◌≡◌}
use Rattle.races.proofs.LeadLaws.{may-keep}
use Rattle.races.proofs.GoLaws.{by-clocks, may-before, going_start, going_next, going_end}
use Rattle.races.proofs.raising.lead_on.Goals as goal

pub loop-t-init : goal.loop-t-init
loop-t-init c =
    let pre = c.requires in
    (pre.1, going_start _ _ _ pre.0)

pub lead_in-requires : goal.lead_in-requires
lead_in-requires c =
    let inv = c.loop-t.invariant in
    may-keep _ _ (may-before inv.0 _ (omega (arith, c.loop-t-test.true))) inv.1.size

pub loop-t-preserved : goal.loop-t-preserved
loop-t-preserved c =
    let led = c.lead_in in
    let test = c in
    let inv = test.loop-t.invariant in
    let on = by-clocks _ _ _ _ _ _ _ c.more_chains-chains.ensures _ led.ensures in
    (inv.0, going_next _ _ _ inv.1 test.loop-t-test.true _ _ _ on led.auto.clocks)

pub returns : goal.returns
returns c =
    let z : c.loop-t.t ≡ c.args.u = omega (arith, c.loop-t.invariant.1.to, c.loop-t-test.false) in
    rw z at (going_end _ _ _ c.loop-t.invariant.1 c.loop-t-test.false)
