use mathlib.Core.Path.{sym, ap, ◌∙◌}
use mathlib.Core.Bool.{Bool, cond}
use Rattle.races.proofs.raising.mark_of.Goals as goal

pub returns-then-comes_before : goal.returns-then-comes_before
returns-then-comes_before c = sym (ap (λ (x : Bool). cond x 0 1) (sym c.comes_before.ensures ∙ c.if-comes_before.true))

pub returns-else-comes_before : goal.returns-else-comes_before
returns-else-comes_before c = sym (ap (λ (x : Bool). cond x 0 1) (sym c.comes_before.ensures ∙ c.if-comes_before.false))
