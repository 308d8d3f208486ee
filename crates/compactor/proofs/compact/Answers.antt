use mathlib.Core.Path.{refl, sym, ap, ◌∙◌}
use native.Mathlib.Omega.{arith}
use Rattle.trace.specs.Paper.{paper}
use Rattle.std.proofs.lemmas.Result.{err_from_is_err_and}
use Rattle.order.proofs.EntryLaws.{records-are, read-acceptable, read-events, read_count}
use Rattle.compactor.proofs.CompactLaws.{slim-most, few-slim, reading-refused, space-short, slim-written, has_room}
use Rattle.compactor.proofs.compact.Goals as goal

pub returns-in_err-t : goal.returns-in_err-t
returns-in_err-t c =
    let p = err_from_is_err_and c.from_residual.result c.from_residual.ensures.1 in
    reading-refused _ _ _ c.in_err-t.ensures (rw (p.1, p.2))

pub fits-requires : goal.fits-requires
fits-requires c =
    let at_records = c in
    let at-reading = at_records in
    let b = at-reading.args.bytes.now in
    let t = at-reading.in_ok-t.t in
    let e = sym (ap paper at-reading.in_ok-t.was) ∙ at-reading.read.ensures in
    let q = at_records.records-recs.ensures in
    read-acceptable b t e _ q

pub returns-then-not-fits : goal.returns-then-not-fits
returns-then-not-fits c =
    let at_records = c in
    let at-reading = at_records in
    let b = at-reading.args.bytes.now in
    let t = at-reading.in_ok-t.t in
    let e = sym (ap paper at-reading.in_ok-t.was) ∙ at-reading.read.ensures in
    let q = at_records.records-recs.ensures in
    let f = c.fits in
    space-short b t e f.result _ (rw (records-are b t e _ q) at f.ensures) c.if-not-fits.true (rw c.at.ensures refl)

pub write_slim-kept-requires : goal.write_slim-kept-requires
write_slim-kept-requires c =
    let at-fits = c in
    let at_records = c in
    let at-reading = at_records in
    let b = at-reading.args.bytes.now in
    let t = at-reading.in_ok-t.t in
    let e = sym (ap paper at-reading.in_ok-t.was) ∙ at-reading.read.ensures in
    let q = at_records.records-recs.ensures in
    let f = at-fits.fits in (
      read-acceptable b t e _ q,
      read-events b t e _ q,
      rw (records-are b t e _ q) (has_room b t e f.result (rw (records-are b t e _ q) at f.ensures) c.if-not-fits.false),
    )

pub overflow_mul-result : goal.overflow_mul-result
overflow_mul-result c =
    let at_records = c in
    let at-reading = at_records in
    let b = at-reading.args.bytes.now in
    let t = at-reading.in_ok-t.t in
    let e = sym (ap paper at-reading.in_ok-t.was) ∙ at-reading.read.ensures in
    let q = at_records.records-recs.ensures in
    omega (arith, c.write_slim-kept.ensures.count, few-slim (read-acceptable b t e _ q))

pub overflow_add-result : goal.overflow_add-result
overflow_add-result c =
    let at_records = c in
    let at-reading = at_records in
    let b = at-reading.args.bytes.now in
    let t = at-reading.in_ok-t.t in
    let e = sym (ap paper at-reading.in_ok-t.was) ∙ at-reading.read.ensures in
    let q = at_records.records-recs.ensures in
    omega (arith, c.write_slim-kept.ensures.count, few-slim (read-acceptable b t e _ q))

pub overflow_sub-result : goal.overflow_sub-result
overflow_sub-result c =
    let at_records = c in
    let at-reading = at_records in
    let b = at-reading.args.bytes.now in
    let t = at-reading.in_ok-t.t in
    let e = sym (ap paper at-reading.in_ok-t.was) ∙ at-reading.read.ensures in
    let q = at_records.records-recs.ensures in
    omega (arith, c.write_slim-kept.ensures.count, slim-most (read-acceptable b t e _ q), read_count b t e _ q)

pub returns : goal.returns
returns c =
    let at-if = c in
    let at-fits = at-if in
    let at_records = c in
    let at-reading = at_records in
    let b = at-reading.args.bytes.now in
    let t = at-reading.in_ok-t.t in
    let e = sym (ap paper at-reading.in_ok-t.was) ∙ at-reading.read.ensures in
    let q = at_records.records-recs.ensures in
    let f = at-fits.fits in
    let w = c.write_slim-kept.ensures in
    slim-written b t e f.result (rw (records-are b t e _ q) at f.ensures) at-if.if-not-fits.false (rw (records-are b t e _ q) at w)
