use Rattle.clocks.proofs.RowLaws.{one_more-at}
use Rattle.order.proofs.FlatLaws.{part-entry, ticked-part}
use Rattle.races.proofs.refilling.add_to_row.Goals as goal

pub returns : goal.returns
returns c =
    let s = c in
    let a = s.args in
    let p = part-entry a.width a.u a.c a.clocks.now s.requires.0 s.requires.1 in
    ticked-part a.width a.u a.c a.clocks.now _ s.requires.0 s.requires.1 (one_more-at _ a.c p.0 (rw p.1 s.requires.2) c.add_one.ensures)
