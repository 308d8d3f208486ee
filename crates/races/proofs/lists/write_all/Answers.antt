use Rattle.races.proofs.ListEnds.{written-unmarked, written-marked}
use Rattle.records.specs.Bytes.{decode}
use Rattle.races.proofs.lists.write_all.Goals as goal

pub list_all-found-requires : goal.list_all-found-requires
list_all-found-requires c = λ t. c.requires.1

pub mark_list-requires : goal.mark_list-requires
mark_list-requires c =
    (c.requires.0, written-unmarked (decode c.args.layout.recs.now) c.args.short c.args.list.now c.requires.1 c.list_all-found.ensures)

pub returns : goal.returns
returns c =
    (written-marked (decode c.args.layout.recs.now) c.args.short c.args.list.now c.requires.1 c.list_all-found.ensures c.mark_list.ensures, c.mark_list.ensures.clocks_stay)
