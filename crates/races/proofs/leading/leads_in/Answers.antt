use mathlib.Core.Path.{◌∙◌}
use borrow.Author.Tests.{lt-leb}
use Rattle.races.proofs.LeadLaws.{not-before, is-before}
use Rattle.races.proofs.leading.leads_in.Goals as goal

pub returns-then-own-kept : goal.returns-then-own-kept
returns-then-own-kept c = is-before _ _ _ _ _ _ c.if-own-kept.true

pub returns-else-own-kept : goal.returns-else-own-kept
returns-else-own-kept c = lt-leb _ _ c.if-own-kept.false ∙ not-before _ _ _ _ _ _ c.if-own-kept.false
