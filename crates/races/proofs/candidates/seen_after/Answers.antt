use mathlib.Core.Logic.{inl, inr}
use borrow.Author.Tests.{ne_eqb}
use Rattle.races.specs.loops.Candidates.{seen_after}
use Rattle.races.proofs.candidates.seen_after.Goals as goal

pub returns-then-ordered : goal.returns-then-ordered
unfolding seen_after
returns-then-ordered c = simp c.if-ordered.true

pub returns-then-kind-eq6 : goal.returns-then-kind-eq6
unfolding seen_after
returns-then-kind-eq6 c = simp (c.if-ordered.false, c.if-short.true, c.if-kind-eq6.true)

pub returns-else-short : goal.returns-else-short
unfolding seen_after
returns-else-short c = elim c.else-short.either [ inl e ↦ simp (c.if-ordered.false, e.0, ne_eqb _ _ e.1) | inr e ↦ simp (c.if-ordered.false, e) ]
