use Rattle.question.specs.loops.ChainPass.{own_chain}
use borrow.Author.Tests.{eq-eqb, ne_eqb}
use Rattle.question.proofs.chains.own_chain.Goals as goal

pub returns-then-u-asked : goal.returns-then-u-asked
unfolding own_chain
returns-then-u-asked c = rw (eq-eqb _ _ c.if-u-asked.true)

pub returns-else-u-asked : goal.returns-else-u-asked
unfolding own_chain
returns-else-u-asked c = rw (ne_eqb _ _ c.if-u-asked.false)
