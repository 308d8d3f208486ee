use mathlib.Core.Path.{ap, ◌∙◌}
use Rattle.job_order.specs.Calls.{order_numbers}
use Rattle.job_order.proofs.jco_order.Goals as goal

pub returns : goal.returns
returns c = record { given = c.answer-given.ensures ∙ ap order_numbers c.ask_order-answer.ensures }
