use mathlib.Core.Path.{sym, ◌∙◌}
use Rattle.order.proofs.EntryLaws.{no-send}
use Rattle.question.proofs.ask_order.Goals as goal

pub ask_read-requires : goal.ask_read-requires
ask_read-requires c =
    let none = c.if-first.false in
    let e = c.read_plain-first.ensures in
    (e.enough none, λ t a. no-send _ t a (sym (e.tells t (a ∙ sym (e.enough none))) ∙ none))
