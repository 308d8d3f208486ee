use Rattle.races.specs.loops.Candidates.{firsts_from}
use Rattle.races.proofs.candidates.firsts_from.Goals as goal

pub returns-then-short : goal.returns-then-short
unfolding firsts_from
returns-then-short c = simp (c.if-short.true, c.saturating_sub.ensures)

pub returns-else-short : goal.returns-else-short
unfolding firsts_from
returns-else-short c = simp c.if-short.false
