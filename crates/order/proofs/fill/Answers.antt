use Rattle.order.proofs.PrepareLaws.{fills}
use mathlib.Core.Path.{sym, ◌∙◌}
use Rattle.order.proofs.EntryLaws.{no-send}
use Rattle.order.proofs.fill.Goals as goal

pub returns-then-first : goal.returns-then-first
returns-then-first c = fills _ _ _ _ _ _ _ _ _ c.prepare_linked-prepared.ensures

pub fill_within-prepared-requires : goal.fill_within-prepared-requires
fill_within-prepared-requires c =
    let at-if = c in
    let at_read = at-if in
    let e = at_read.read_plain-first.ensures in (
      e.enough at-if.if-first.false,
      at_read.zeros-chosen.ensures,
      λ t a. no-send _ t a (sym (e.tells t (a ∙ sym (e.enough at-if.if-first.false))) ∙ at-if.if-first.false),
    )

pub returns : goal.returns
returns c = fills _ _ _ _ _ _ _ _ _ c.fill_within-prepared.ensures
