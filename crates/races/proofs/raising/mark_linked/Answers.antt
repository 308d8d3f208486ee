use Rattle.races.proofs.MarkedList.{marks-list}
use Rattle.races.proofs.RefillLaws.{again-filled}
use Rattle.races.proofs.KeepLaws.{may-keep, restorable, restored}
use Rattle.races.proofs.raising.mark_linked.Goals as goal

pub keep_rows-requires : goal.keep_rows-requires
keep_rows-requires c = (may-keep c.requires.0 c.args.layout.events_are, c.no_bits-table.ensures)

pub mark_all-requires : goal.mark_all-requires
mark_all-requires c = c.requires

pub restore_rows-requires : goal.restore_rows-requires
restore_rows-requires c = restorable c.requires.0 c.args.layout.events_are c.keep_rows.ensures _ c.mark_all.auto.clocks

pub returns : goal.returns
returns c =
    let e = restored c.requires.0 c.args.layout.events_are c.keep_rows.ensures _ _ c.mark_all.auto.clocks c.restore_rows.ensures in
    marks-list (again-filled c.requires.0 _ c.mark_all.ensures.past_rows _ e) c.mark_all.ensures.remarked
