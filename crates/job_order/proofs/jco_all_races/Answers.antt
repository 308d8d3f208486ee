use mathlib.Core.Path.{ap, ◌∙◌}
use Rattle.job_order.specs.Calls.{list_numbers}
use Rattle.job_order.proofs.jco_all_races.Goals as goal

pub returns : goal.returns
returns c =
    let at-all-races = c in
    let lists = at-all-races.all_races-listing.ensures in
    record { given = c.listing-given.ensures ∙ ap list_numbers lists.answer; clocks-after = lists.clocks-after; work-after = lists.work-after; list-after = lists.list-after }
