use mathlib.Core.Path.{ap, ◌∙◌}
use Rattle.trace.specs.Reply.{Reply}
use Rattle.pair.specs.Pair.{PairMark}
use Rattle.job_order.specs.Calls.{pair_numbers}
use Rattle.job_order.proofs.jco_ask_pair.Goals as goal

pub returns : goal.returns
returns c =
    let at-ask-pair = c in
    let asks = at-ask-pair.ask_pair-answer.ensures in
    record { given = c.pair-given.ensures.0 ∙ ap (λ (r : Reply PairMark). pair_numbers r c.pair-given.result.count) asks.answer; clocks-after = asks.clocks-after; work-after = asks.work-after; list-after = rw c.pair-given.ensures.1 asks.list-after }
