use mathlib.Core.Path.{sym, ◌∙◌}
use Rattle.races.proofs.KeepLaws.{kept_put, kept-left}
use Rattle.races.proofs.keeping.keep_bit.Goals as goal

pub returns-then-comes_before : goal.returns-then-comes_before
returns-then-comes_before c =
    let then1 = c in
    let pre = then1.requires in
    rw c.put.ensures (kept_put _ _ _ pre.3 pre.1 pre.2 (sym then1.comes_before.ensures ∙ then1.if-comes_before.true))

pub returns-else-comes_before : goal.returns-else-comes_before
returns-else-comes_before c =
    let pre = c.requires in
    kept-left _ _ _ pre.3 pre.1 (sym c.comes_before.ensures ∙ c.if-comes_before.false)
