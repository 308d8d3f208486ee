use mathlib.Core.Path.{◌∙◌}
use Rattle.trace.proofs.PlaceRule.{as-between, as-inside}
use Rattle.trace.proofs.place.next.Goals as goal

pub returns-then-situation-lt2 : goal.returns-then-situation-lt2
returns-then-situation-lt2 c = c.next_outside.ensures ∙ as-between _ _ c.if-situation-lt2.true

pub returns : goal.returns
returns c = c.next_inside.ensures ∙ as-inside _ _ c.if-situation-lt2.false
