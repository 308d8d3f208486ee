use Rattle.records.proofs.Decoded.{decoded-length}
use Rattle.slices.proofs.Cleared.{cleared-whole}
use Rattle.ranks.specs.Ranks.{ranks_upto, ranks_of}
use Rattle.records.specs.Records.{past, begins}
use Rattle.records.specs.Bytes.{decode}
use mathlib.Core.Path.{refl, ap, ◌∙◌}
use native.Mathlib.Omega.{arith}
use Rattle.ranks.proofs.fill_ranks.Goals as goal

pub loop-i-init : goal.loop-i-init
unfolding ranks_upto begins past
loop-i-init c =
    let start = c in
    (omega arith, omega arith, record { ranks_are = cleared-whole start.args.ranks.now (omega arith) c.clear.ensures; begins_are = refl })

pub overflow_add-i : goal.overflow_add-i
overflow_add-i c =
    let start = c in
    omega (arith, decoded-length start.args.recs.now, start.well_formed.0.0, c.count-n.ensures)

pub note_four-found-requires : goal.note_four-found-requires
note_four-found-requires c =
    let at_count = c in
    let start = c in
    let l = c.loop-i in
    (l.invariant.0, omega (arith, decoded-length start.args.recs.now, start.well_formed.0.0, at_count.count-n.ensures), l.invariant.2)

pub loop-i-preserved : goal.loop-i-preserved
loop-i-preserved c = (c.note_four-found.ensures.1, omega arith, c.note_four-found.ensures.0)

pub note_last-requires : goal.note_last-requires
note_last-requires c =
    let at_count = c in
    let start = c in
    let l = c.loop-i in
    (l.invariant.0, l.invariant.1, omega (arith, decoded-length start.args.recs.now, start.well_formed.0.0, at_count.count-n.ensures), l.invariant.2)

pub returns : goal.returns
unfolding ranks_of
returns c =
    let at_count = c in
    let start = at_count in
    c.note_last.ensures ∙ ap (ranks_upto (decode start.args.recs.now)) at_count.count-n.ensures
