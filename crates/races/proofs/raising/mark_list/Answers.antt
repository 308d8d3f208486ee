use mathlib.Core.Path.{sym, ◌∙◌}
use Rattle.races.proofs.MarkedList.{marks-none, marks-list}
use Rattle.races.proofs.RefillLaws.{again-refillable, again-filled}
use Rattle.races.proofs.raising.mark_list.Goals as goal

pub returns-then-count-eq0 : goal.returns-then-count-eq0
returns-then-count-eq0 c = marks-none _ _ _ c.if-count-eq0.true

pub mark_linked-requires : goal.mark_linked-requires
mark_linked-requires c = c.requires

pub returns-then-layout : goal.returns-then-layout
returns-then-layout c = c.mark_linked.ensures

pub mark_all-requires : goal.mark_all-requires
mark_all-requires c = c.requires

pub refill-requires : goal.refill-requires
refill-requires c = again-refillable c.requires.0 (sym c.args.layout.sends_are ∙ c.if-layout.false) _ c.mark_all.auto.clocks _ c.args.layout.events_are

pub returns-else-layout : goal.returns-else-layout
returns-else-layout c = marks-list (again-filled c.requires.0 _ c.mark_all.ensures.past_rows _ c.refill.ensures) c.mark_all.ensures.remarked
