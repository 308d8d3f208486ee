use Prim.Native.Nat.{◌-◌}
use mathlib.Core.Path.{refl, sym, ap, ◌∙◌}
use native.Mathlib.Omega.{arith}
use Rattle.records.specs.Bytes.{decode}
use Rattle.links.specs.Rule.{rank_in}
use Rattle.links.specs.Begin.{may}
use Rattle.links.proofs.BeginLaws.{may-down, may-stop, may-end}
use Rattle.links.proofs.may_walk.Goals as goal

pub loop-j-init : goal.loop-j-init
loop-j-init c = (refl, refl)

pub shape_of-sent-then-may_turn : goal.shape_of-sent-then-may_turn
shape_of-sent-then-may_turn c = c.may_turn.auto.sent ∙ c.loop-j.invariant.0

pub returns-then-may_turn : goal.returns-then-may_turn
returns-then-may_turn c = let t = c.may_turn.ensures in may-stop _ _ _ _ _ (omega arith) (sym t.found-is ∙ c.if-may_turn.true) ∙ c.loop-j.invariant.1

pub loop-j-preserved : goal.loop-j-preserved
loop-j-preserved c = let t = c.may_turn.ensures in
    let k = c.args in
    let l = c.loop-j in
    let down = may-down (decode k.recs.now) (rank_in k.ranks.now) k.e.0 l.sent l.j (omega arith) (sym t.found-is ∙ c.if-may_turn.false) in
    (c.may_turn.auto.sent ∙ l.invariant.0, ap (may (decode k.recs.now) (rank_in k.ranks.now) k.e.0 (l.j - 1)) t.sent_is ∙ down ∙ l.invariant.1)

pub shape_of-sent : goal.shape_of-sent
shape_of-sent c = c.loop-j.invariant.0

pub returns : goal.returns
returns c = may-end _ _ _ _ _ (omega arith) ∙ c.loop-j.invariant.1
