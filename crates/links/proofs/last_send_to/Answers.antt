use Prim.Native.Nat.{suc, ◌-◌}
use mathlib.Core.Path.{◌≡◌, sym, ap, ◌∙◌}
use native.Mathlib.Omega.{arith}
use Rattle.records.specs.Bytes.{decode}
use Rattle.links.specs.Begin.{last_send}
use Rattle.links.proofs.BeginLaws.{last-down, last-here, last_end}
use Rattle.links.proofs.last_send_to.Goals as goal

pub loop-j-init : goal.loop-j-init
loop-j-init c = ap (last_send (decode c.args.recs.now) c.args.e.0) c.count-j.ensures

pub returns-then-is_send_to : goal.returns-then-is_send_to
returns-then-is_send_to c =
    let e : suc (c.loop-j.j - 1) ≡ c.loop-j.j = omega arith in
    let here = last-here _ _ _ (omega arith) (sym c.is_send_to.ensures ∙ c.if-is_send_to.true) ∙ c.loop-j.invariant in
    record { last = e ∙ here; inside = omega (arith, c.count-j.ensures) }

pub loop-j-preserved : goal.loop-j-preserved
loop-j-preserved c = last-down _ _ _ (omega arith) (sym c.is_send_to.ensures ∙ c.if-is_send_to.false) ∙ c.loop-j.invariant

pub returns : goal.returns
returns c = record { last = last_end _ _ _ (omega arith) ∙ c.loop-j.invariant; inside = omega arith }
