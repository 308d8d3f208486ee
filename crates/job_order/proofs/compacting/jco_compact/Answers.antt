use mathlib.Core.Path.{ap, ◌∙◌}
use Rattle.job_order.specs.Calls.{slim_numbers}
use Rattle.job_order.proofs.compacting.jco_compact.Goals as goal

pub returns : goal.returns
returns c =
    let compacts = c.compact.ensures in
    record { given = c.numbers_of-given.ensures ∙ ap slim_numbers compacts.answer; out-after = compacts.out-after }
