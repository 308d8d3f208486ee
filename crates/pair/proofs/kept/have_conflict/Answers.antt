use native.Mathlib.Omega.{arith}
use mathlib.Core.Path.{refl, sym, ◌∙◌}
use Rattle.pair.proofs.KeptLaws.{no-clash-start, no-clash-next, no-clash-end, clash-found}
use Rattle.pair.proofs.kept.have_conflict.Goals as goal

pub returns-then-count-hi : goal.returns-then-count-hi
returns-then-count-hi c = absurd (omega (arith, c.count.ensures))

pub loop-i-init : goal.loop-i-init
loop-i-init c = no-clash-start _ _ _

pub has_conflict-requires : goal.has_conflict-requires
has_conflict-requires c =
    let s = c in
    (s.requires.0, s.requires.1, omega (arith, s.requires.2))

pub returns-then-has_conflict : goal.returns-then-has_conflict
returns-then-has_conflict c =
    let l = c.loop-i in
    clash-found _ _ _ _ l.i c.loop-i-test.true l.invariant (sym c.has_conflict.ensures ∙ c.if-has_conflict.true) _ refl

pub loop-i-preserved : goal.loop-i-preserved
loop-i-preserved c =
    let l = c.loop-i in
    no-clash-next _ _ _ l.i l.invariant (sym c.has_conflict.ensures ∙ c.if-has_conflict.false)

pub returns : goal.returns
returns c = let l = c.loop-i in no-clash-end _ _ _ _ l.i c.loop-i-test.false l.invariant _ refl
