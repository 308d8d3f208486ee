use Rattle.question.proofs.MarkListLaws.{unlinked}
use Rattle.question.specs.loops.Marking.{mark_in}
use mathlib.Core.Path.{sym, ◌∙◌}
use Rattle.question.proofs.chains.mark_link.Goals as goal

pub returns-then-is_marked : goal.returns-then-is_marked
unfolding mark_in
returns-then-is_marked c =
    let at-if = c in
    let at-is-marked = at-if in
    let at-said = at-is-marked in
    let at-ordering-at = at-said in
    rw (sym at-said.in-Link.ensures) (c.put.ensures ∙ simp (← at-is-marked.is_marked.ensures, at-if.if-is_marked.true))

pub returns-else-is_marked : goal.returns-else-is_marked
unfolding mark_in
returns-else-is_marked c =
    let at-said = c in
    let at-ordering-at = at-said in
    rw (sym at-said.in-Link.ensures) (simp (← c.is_marked.ensures, c.if-is_marked.false))

pub returns-in_default : goal.returns-in_default
returns-in_default c = rw (sym c.ordering_at.ensures) (sym (unlinked c.ordering_at.result c.in_default.not-Link _))
