use native.Mathlib.Omega.{arith}
use mathlib.Core.Path.{refl, sym, ◌∙◌}
use Rattle.races.proofs.LeadLaws.{may-keep, lead-none, lead-down}
use Rattle.races.proofs.leading.lead_down.Goals as goal

pub loop-p-init : goal.loop-p-init
loop-p-init c = let pre = c.requires in (omega arith, pre.0, pre.1, refl, refl)

pub lead_from-requires : goal.lead_from-requires
lead_from-requires c =
    let inv = c.loop-p.invariant in
    (may-keep _ _ inv.1 inv.3, omega (arith, inv.0, c.loop-p-test.true), inv.2)

pub loop-p-preserved : goal.loop-p-preserved
loop-p-preserved c =
    let test = c in
    let inv = test.loop-p.invariant in
    let led = c.lead_from in
    (omega (arith, inv.0), inv.1, inv.2, led.auto.clocks ∙ inv.3, lead-down _ _ _ _ _ _ _ _ test.loop-p-test.true led.ensures ∙ inv.4)

pub returns : goal.returns
returns c = let loop = c.loop-p in sym (lead-none _ _ _ _ _ _ _ (omega (arith, c.loop-p-test.false))) ∙ loop.invariant.4
