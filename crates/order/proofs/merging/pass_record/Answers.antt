use Rattle.ranks.proofs.OrderingLaws.{begin-said, nothing_said}
use mathlib.Core.Path.{refl, sym, ◌∙◌}
use Rattle.order.proofs.merging.pass_record.Goals as goal

pub returns-in-Link : goal.returns-in-Link
returns-in-Link c =
    let s5 = c in
    rw (sym s5.in-Link.ensures)
    (record { stopped_is = refl; clocks_are = c.merge_row.ensures })

pub returns-in-Begin : goal.returns-in-Begin
returns-in-Begin c =
    rw (sym c.ordering_at-said.ensures ∙ (begin-said c.ordering_at-said.result (rw c.in-Begin.is refl)).1)
    (record { stopped_is = refl; clocks_are = refl })

pub returns-in-Nothing : goal.returns-in-Nothing
returns-in-Nothing c =
    rw (sym c.ordering_at-said.ensures ∙ nothing_said c.ordering_at-said.result (rw c.in-Nothing.is refl))
    (record { stopped_is = refl; clocks_are = refl })
