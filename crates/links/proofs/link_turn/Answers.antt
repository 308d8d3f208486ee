use native.Mathlib.Omega.{arith}
use Rattle.records.proofs.KindLaws.{a_send}
use Rattle.links.specs.Rule.{turn_stuck, turn_words, turn_sets, hits, sends}
use Rattle.links.proofs.link_turn.Goals as goal

pub returns-in_default : goal.returns-in_default
unfolding turn_stuck turn_words turn_sets hits sends
returns-in_default c = grind (arith, a_send)

pub returns-then-x-eq0 : goal.returns-then-x-eq0
unfolding turn_stuck turn_words turn_sets hits sends
returns-then-x-eq0 c = grind (arith, a_send)

pub returns-then-eq : goal.returns-then-eq
unfolding turn_stuck turn_words turn_sets hits sends
returns-then-eq c = grind (arith, a_send)

pub returns-then-has : goal.returns-then-has
unfolding turn_stuck turn_words turn_sets hits sends
returns-then-has c = grind (arith, a_send)

pub returns-else-has : goal.returns-else-has
unfolding turn_stuck turn_words turn_sets hits sends
returns-else-has c = grind (arith, a_send)
