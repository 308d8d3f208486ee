use Rattle.order.specs.Lent.{spaces, spaced}
use Rattle.order.specs.Prepare.{within}
use Rattle.trace.specs.Reply.{demand, then}
use Rattle.trace.specs.Paper.{paper}
use Rattle.std.proofs.lemmas.Result.{err_from_is_err_and}
use borrow.Author.Tests.{le-leb, lt-leb}
use mathlib.Core.Path.{sym, ap, ◌∙◌}
use Rattle.order.proofs.read_within.Goals as goal

pub returns-in_err-t : goal.returns-in_err-t
unfolding within spaced then
returns-in_err-t c =
    let p = err_from_is_err_and c.from_residual.result c.from_residual.ensures.1 in
    rw (p.1, p.2, c.in_err-t.was)

pub returns-then-not-has_records : goal.returns-then-not-has_records
unfolding within spaced spaces then demand
returns-then-not-has_records c =
    let e = sym (ap paper c.in_ok-t.was) in
    let records = sym c.has_records.ensures ∙ c.if-not-has_records.true in
    rw (c.at.ensures, ← e, records)

pub returns-then-not-has_space : goal.returns-then-not-has_space
unfolding within spaced spaces then demand
returns-then-not-has_space c =
    let at_records = c in
    let e = sym (ap paper at_records.in_ok-t.was) in
    let records = sym at_records.has_records.ensures ∙ c.if-not-has_records.false in
    let space = sym c.has_space.ensures ∙ c.if-not-has_space.true in
    rw (c.at-then-not-has_space.ensures, ← e, records, space)

pub returns-then-call-t : goal.returns-then-call-t
unfolding within spaced spaces then demand
returns-then-call-t c =
    let at-space = c in
    let at_records = at-space in
    let e = sym (ap paper at_records.in_ok-t.was) in
    let records = sym at_records.has_records.ensures ∙ at-space.if-not-has_records.false in
    let space = sym at-space.has_space.ensures ∙ c.if-not-has_space.false in
    rw (c.at-then-call-t.ensures, ← e, records, space, lt-leb _ _ c.if-call-t.true)

pub returns : goal.returns
unfolding within spaced spaces then demand
returns c =
    let at-space = c in
    let at_records = at-space in
    let e = sym (ap paper at_records.in_ok-t.was) in
    let records = sym at_records.has_records.ensures ∙ at-space.if-not-has_records.false in
    let space = sym at-space.has_space.ensures ∙ c.if-not-has_space.false in
    rw (← e, records, space, le-leb _ _ c.if-call-t.false)
