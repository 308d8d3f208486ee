use mathlib.Core.Path.{ap, ◌∙◌}
use Rattle.job_order.specs.Calls.{fill_numbers}
use Rattle.job_order.proofs.jco_fill.Goals as goal

pub returns : goal.returns
returns c =
    let fills = c.fill.ensures in
    record { given = c.filling-given.ensures ∙ ap fill_numbers fills.answer; clocks-after = fills.clocks-after }
