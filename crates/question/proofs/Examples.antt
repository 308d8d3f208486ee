-- What happens before the third event action of trace T, by marks: the first, and itself. Assumes nothing.
use mathlib.Core.Path.{◌≡◌, refl}
use mathlib.Core.List.{[], ◌∷◌}
use Rattle.order.specs.Chains.{bit}
use Rattle.order.specs.Clocks.{table}
use Rattle.order.proofs.Examples.{records}
use Rattle.question.specs.loops.Marking.{mark_by, marks_down, marks}

marks-third : table 3 (λ t. bit (marks records 8 2 t)) ≡ 1 ∷ 0 ∷ 1 ∷ []
unfolding table marks_down mark_by
marks-third = refl
