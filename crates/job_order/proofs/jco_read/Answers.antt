use mathlib.Core.Path.{ap, ◌∙◌}
use Rattle.job_order.specs.Calls.{read_numbers}
use Rattle.job_order.proofs.jco_read.Goals as goal

pub returns : goal.returns
returns c = record { given = c.reading-given.ensures ∙ ap read_numbers c.read.ensures }
