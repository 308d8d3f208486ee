use Rattle.order.proofs.EntryLaws.{records-are, read-acceptable, read-events}
use Rattle.trace.specs.Reply.{then}
use Rattle.question.specs.Question.{order_reply}
use Rattle.trace.specs.Paper.{paper}
use mathlib.Core.Path.{sym, ap, ◌∙◌}
use Rattle.std.proofs.lemmas.Result.{err_from_is_err_and}
use Rattle.question.proofs.ask_read.Goals as goal

pub returns-in_err-read : goal.returns-in_err-read
unfolding order_reply then
returns-in_err-read c =
    let p = err_from_is_err_and c.from_residual.result c.from_residual.ensures.1 in
    let e = sym (ap paper c.in_err-read.was) ∙ c.requires.0 in
    rw (p.1, p.2, ← e)

pub ask-requires : goal.ask-requires
ask-requires c =
    let start = c in
    let t = c.in_ok-read.read in
    let e = sym (ap paper c.in_ok-read.was) ∙ start.requires.0 in
    let b = start.args.bytes.now in
    let w = c.records.ensures in (
      read-acceptable b t e _ w,
      read-events b t e _ w,
      rw (records-are b t e _ w) (start.requires.1 t e),
    )

pub returns : goal.returns
unfolding order_reply then
returns c =
    let start = c in
    let t = c.in_ok-read.read in
    let e = sym (ap paper c.in_ok-read.was) ∙ start.requires.0 in
    rw (← e, ← records-are start.args.bytes.now t e _ c.records.ensures) c.ask.ensures
