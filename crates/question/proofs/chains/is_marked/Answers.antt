use Rattle.question.proofs.chains.is_marked.Goals as goal

pub returns : goal.returns
returns c = simp c.get.ensures
