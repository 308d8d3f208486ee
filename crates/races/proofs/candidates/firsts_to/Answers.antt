use borrow.Author.Tests.{ne_eqb}
use Rattle.races.specs.loops.Candidates.{firsts_to}
use Rattle.races.proofs.candidates.firsts_to.Goals as goal

pub returns-then-kind-eq5 : goal.returns-then-kind-eq5
unfolding firsts_to
returns-then-kind-eq5 c = simp c.if-kind-eq5.true

pub returns-else-kind-eq5 : goal.returns-else-kind-eq5
unfolding firsts_to
returns-else-kind-eq5 c = simp (ne_eqb _ _ c.if-kind-eq5.false)
