use native.Mathlib.Omega.{arith}
use Rattle.records.proofs.KindLaws.{a_send}
use Rattle.links.specs.Begin.{may_turn, may_sent, send_to}
use Rattle.links.proofs.may_turn.Goals as goal

pub returns-in_default : goal.returns-in_default
unfolding may_turn may_sent send_to
returns-in_default c = grind (arith, a_send)

pub returns-then-eq : goal.returns-then-eq
unfolding may_turn may_sent send_to
returns-then-eq c = grind (arith, a_send)

pub returns-then-rank_of-eq0 : goal.returns-then-rank_of-eq0
unfolding may_turn may_sent send_to
returns-then-rank_of-eq0 c = grind (arith, a_send)

pub returns-else-rank_of-eq0 : goal.returns-else-rank_of-eq0
unfolding may_turn may_sent send_to
returns-else-rank_of-eq0 c = grind (arith, a_send)
