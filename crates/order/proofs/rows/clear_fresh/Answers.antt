use borrow.Author.Tests.{eq-eqb, ne_eqb}
use Rattle.order.proofs.rows.clear_fresh.Goals as goal

pub returns-then-chosen-u-eq0 : goal.returns-then-chosen-u-eq0
returns-then-chosen-u-eq0 c =
    let at-if = c in
    rw (eq-eqb _ 0 at-if.if-chosen-u-eq0.true) c.clear_row.ensures

pub returns-else-chosen-u-eq0 : goal.returns-else-chosen-u-eq0
returns-else-chosen-u-eq0 c = rw (ne_eqb _ 0 c.if-chosen-u-eq0.false)
