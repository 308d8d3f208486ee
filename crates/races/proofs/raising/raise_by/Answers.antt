use native.Mathlib.Omega.{arith}
use mathlib.Core.Path.{◌∙◌}
use Rattle.races.proofs.RaiseLaws.{raise-open, raise-covered}
use Rattle.races.proofs.raising.raise_by.Goals as goal

pub returns-else-list-j-eq1 : goal.returns-else-list-j-eq1
returns-else-list-j-eq1 c = let if1 = c.if-list-j-eq1 in raise-covered _ _ _ _ _ _ _ _ if1.false

pub overflow_cast-t : goal.overflow_cast-t
overflow_cast-t c = record { fits = omega (arith, c.row_of-t.ensures.1) }

pub returns-then-list-j-eq1 : goal.returns-then-list-j-eq1
returns-then-list-j-eq1 c =
    let at-row-at = c in
    let at-if = at-row-at in
    let merge-row = c.merge_row in let if1 = at-if.if-list-j-eq1 in let row_at = at-row-at.row_of-t in merge-row.ensures ∙ raise-open _ _ _ _ _ _ _ _ if1.true _ row_at.ensures.0
