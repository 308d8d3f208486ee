use borrow.Author.Tests.{eq-eqb, ne_eqb}
use mathlib.Core.Path.{sym, ◌∙◌}
use Rattle.order.proofs.linking.take_link.Goals as goal

pub returns-then-hint-eq0 : goal.returns-then-hint-eq0
returns-then-hint-eq0 c =
    let s4 = c in
    let s7 = s4 in
    let hint = s7.get-hint.ensures in
    record { clocks_after = rw (eq-eqb _ 0 (sym hint ∙ s4.if-hint-eq0.true)) c.copy_row.ensures; hints_after = s7.note.ensures }

pub returns : goal.returns
returns c =
    let s4 = c in
    let s7 = s4 in
    let hint = s7.get-hint.ensures in
    record { clocks_after = rw (ne_eqb _ 0 (λ z. s4.if-hint-eq0.false (hint ∙ z))) c.merge_row.ensures; hints_after = s7.note.ensures }
