use mathlib.Core.Path.{refl}
use Rattle.races.proofs.ListEnds.{all-refused, none-listed, all_room, all_listed}
use Rattle.records.specs.Bytes.{decode}
use Rattle.races.proofs.lists.list_filled.Goals as goal

pub returns-then-list-counted : goal.returns-then-list-counted
returns-then-list-counted c =
    let at-count-all = c in
    let start = at-count-all in
    all-refused (decode start.args.layout.recs.now) start.args.short start.args.layout.events start.args.list.now _ at-count-all.count_all-counted.result at-count-all.count_all-counted.ensures.0 at-count-all.count_all-counted.ensures.1 _ c.if-list-counted.true _ (rw c.at.ensures)

pub returns-then-counted-eq0 : goal.returns-then-counted-eq0
returns-then-counted-eq0 c =
    let at-count-all = c in
    let start = at-count-all in
    none-listed (decode start.args.layout.recs.now) start.args.short start.args.layout.events start.args.list.now _ at-count-all.count_all-counted.result at-count-all.count_all-counted.ensures.0 at-count-all.count_all-counted.ensures.1 c.if-list-counted.false c.if-counted-eq0.true _ c.count-records.result start.args.chains c.count-records.ensures start.requires.1 _ refl

pub write_all-found-requires : goal.write_all-found-requires
write_all-found-requires c =
    let at-if = c in
    let at-count-all = at-if in
    let start = at-count-all in
    (start.requires.0, all_room (decode start.args.layout.recs.now) start.args.short start.args.layout.events start.args.list.now _ at-count-all.count_all-counted.result at-count-all.count_all-counted.ensures.0 at-count-all.count_all-counted.ensures.1 at-if.if-list-counted.false)

pub returns : goal.returns
returns c =
    let at-write-all = c in
    let at_count = at-write-all in
    let at-if = at_count in
    let at-count-all = at-if in
    let start = at-count-all in
    all_listed (decode start.args.layout.recs.now) start.args.short start.args.layout.events start.args.list.now _ at-count-all.count_all-counted.result at-count-all.count_all-counted.ensures.0 at-count-all.count_all-counted.ensures.1 at-if.if-list-counted.false at-write-all.write_all-found.ensures.0 at-write-all.write_all-found.ensures.1 at_count.count-records.result start.args.chains at_count.count-records.ensures start.requires.1 _ refl
