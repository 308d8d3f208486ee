use Rattle.order.proofs.PrepareLaws.{stopped, within-reading, fitting, passed}
use Rattle.order.proofs.EntryLaws.{records-are, read-acceptable, read-events}
use Rattle.order.specs.Paper.{fill_paper}
use Rattle.trace.specs.Paper.{paper}
use mathlib.Core.Path.{sym, ap, ◌∙◌}
use Rattle.order.proofs.fill_within.Goals as goal

pub returns-in-Err : goal.returns-in-Err
returns-in-Err c =
    let e = sym (within-reading c.args.bytes.now _ _ _ _ _ _ c.requires.0) ∙ sym c.read_within-ready.ensures ∙ ap paper c.in-Err.is in
    stopped _ _ _ _ _ _ _ _ _ _ (ap fill_paper c.unfilled.ensures.0) c.unfilled.ensures.1 c.requires.1 e

pub fill_rows-answer-requires : goal.fill_rows-answer-requires
fill_rows-answer-requires c =
    let at_records = c in
    let at_ready = at_records in
    let at_read = at_ready in
    let start = at_read in
    let b = start.args.bytes.now in
    let t = at_ready.in-Ok.t in
    let e = sym (ap paper at_ready.in-Ok.is) ∙ (at_read.read_within-ready.ensures ∙ within-reading b _ _ _ _ _ _ start.requires.0) in
    let r = (fitting b _ _ _ _ _ t e).read in
    let w = at_records.records.ensures in (
      read-acceptable b t r _ w,
      read-events b t r _ w,
      (fitting b _ _ _ _ _ t e).has-space,
      start.requires.1,
      rw (records-are b t r _ w) (start.requires.2 t r),
    )

pub returns : goal.returns
returns c =
    let at_fill_lem = c in
    let at_records = at_fill_lem in
    let at_ready = at_records in
    let at_read = at_ready in
    let start = at_read in
    let b = start.args.bytes.now in
    let t = at_ready.in-Ok.t in
    let e = sym (ap paper at_ready.in-Ok.is) ∙ (at_read.read_within-ready.ensures ∙ within-reading b _ _ _ _ _ _ start.requires.0) in
    let r = (fitting b _ _ _ _ _ t e).read in
    passed b _ _ start.args.clocks.now _ t e _ _ _ _ _ (records-are b t r _ at_records.records.ensures) at_fill_lem.fill_rows-answer.ensures
