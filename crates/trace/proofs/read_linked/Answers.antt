use mathlib.Core.Path.{ap, ◌∙◌}
use mathlib.Core.List.{List}
use lib.ListN.{length}
use Rattle.links.proofs.FillLength.{all-length}
use Rattle.trace.proofs.Replies.{passed-same}
use Rattle.records.specs.declared.Record.{Record}
use Rattle.records.specs.Bytes.{decode}
use Rattle.ranks.specs.Ranks.{ranks_of}
use Rattle.links.specs.Fill.{fill_all}
use Rattle.trace.specs.Plain.{passed_in, earlier}
use Rattle.trace.proofs.read_linked.Goals as goal

pub earlier_of-requires : goal.earlier_of-requires
earlier_of-requires c = c.read_plain-first.ensures.few

pub returns : goal.returns
unfolding passed_in
returns c =
    let filled = c.fill_all-blocked.ensures in
    let at_front = c in
    let first = at_front.read_plain-first in
    let front = ap decode at_front.records_from-passed.ensures in (
      c.earlier_of.ensures
          ∙ ap (earlier first.result) (filled.0.0 ∙ ap (λ (tr : List Record). (fill_all tr).stop) front)
          ∙ first.ensures.decided,
      record {
        accepted = λ t h.
            let e = front ∙ first.ensures.all_passed t h in
            (filled.1 ∙ ap ranks_of e, filled.0.1 ∙ ap (λ (tr : List Record). (fill_all tr).words) e);
        passed = λ s h.
            let e = front ∙ passed-same _ first.result s first.ensures h in
            (filled.1 ∙ ap ranks_of e, filled.0.1 ∙ ap (λ (tr : List Record). (fill_all tr).words) e);
        long = ap length filled.0.1 ∙ all-length (decode at_front.records_from-passed.result.now);
      },
    )
