use mathlib.Core.Path.{sym}
use native.Mathlib.Omega.{arith}
use Rattle.order.proofs.FlatLaws.{none-chosen}
use Rattle.order.proofs.rows.choose_hinted.Goals as goal

pub overflow_sub-from : goal.overflow_sub-from
overflow_sub-from c = omega (arith, c.requires.1)

pub returns-then-chains-from : goal.returns-then-chains-from
returns-then-chains-from c = let s = c in sym (none-chosen _ _ _ _ _ (λ d h. s.requires.2 d (omega arith)))

pub choose-requires : goal.choose-requires
choose-requires c = let s = c in (s.requires.0, omega arith, λ d h. s.requires.2 d (omega arith))
