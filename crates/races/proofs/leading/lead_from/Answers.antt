use native.Mathlib.Omega.{arith}
use mathlib.Core.Path.{sym, ◌∙◌}
use Rattle.races.proofs.LeadLaws.{may-rows, lead-taken, lead-left}
use Rattle.races.proofs.leading.lead_from.Goals as goal

pub leads_in-requires : goal.leads_in-requires
leads_in-requires c =
    let pre = c.requires in
    let m = may-rows _ _ pre.0 _ pre.1 in
    (m.0, omega (arith, m.1, pre.2))

pub returns-then-leads_in : goal.returns-then-leads_in
returns-then-leads_in c =
    let then1 = c in
    c.merge_in.ensures ∙ lead-taken _ _ _ _ _ _ _ (sym then1.leads_in.ensures ∙ then1.if-leads_in.true)

pub returns-else-leads_in : goal.returns-else-leads_in
returns-else-leads_in c = lead-left _ _ _ _ _ _ _ (sym c.leads_in.ensures ∙ c.if-leads_in.false)
