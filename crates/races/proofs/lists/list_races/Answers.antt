use Rattle.races.proofs.ListEnds.{for-list, not_listed, listable}
use Rattle.races.proofs.FilledLaws.{chosen-length, ranks-length}
use Rattle.order.specs.Paper.{fill_paper}
use Rattle.std.proofs.lemmas.Result.{err_from_is_err_and}
use mathlib.Core.Path.{sym, ap}
use Rattle.races.proofs.lists.list_races.Goals as goal

pub returns-in_err-chains : goal.returns-in_err-chains
returns-in_err-chains c =
    let s = c.args in
    let p = err_from_is_err_and c.from_residual.result c.from_residual.ensures.1 in
    not_listed s.bytes.now s.short s.width s.clocks.now _ s.work.now _ _ s.list.now _ _ (for-list _ c.prepare-prepared.ensures) c.clear.ensures
    _ _ (ap fill_paper c.in_err-chains.was) _ (rw (p.1, p.2))

pub slice_bounds-layout-end : goal.slice_bounds-layout-end
slice_bounds-layout-end c =
    let r = c in
    let a = r in
    let k = a in
    let p = k in
    let s = p in
    let l = listable s.args.bytes.now s.args.short s.args.width s.args.clocks.now _ s.args.work.now _ _ s.args.list.now _ _ (for-list _ p.prepare-prepared.ensures) k.clear.ensures _ (ap fill_paper a.in_ok-chains.was) _ r.records-recs.ensures in
    sym (ranks-length l.filled)

pub slice_bounds-layout-end-2 : goal.slice_bounds-layout-end-2
slice_bounds-layout-end-2 c =
    let r = c in
    let a = r in
    let k = a in
    let p = k in
    let s = p in
    let l = listable s.args.bytes.now s.args.short s.args.width s.args.clocks.now _ s.args.work.now _ _ s.args.list.now _ _ (for-list _ p.prepare-prepared.ensures) k.clear.ensures _ (ap fill_paper a.in_ok-chains.was) _ r.records-recs.ensures in
    sym (chosen-length l.filled)

pub invariant_of-layout : goal.invariant_of-layout
invariant_of-layout c =
    let r = c in
    let a = r in
    let k = a in
    let p = k in
    let s = p in
    let l = listable s.args.bytes.now s.args.short s.args.width s.args.clocks.now _ s.args.work.now _ _ s.args.list.now _ _ (for-list _ p.prepare-prepared.ensures) k.clear.ensures _ (ap fill_paper a.in_ok-chains.was) _ r.records-recs.ensures in
    record { events_are = l.events_are; sends_are = l.sends_are }

pub list_filled-requires : goal.list_filled-requires
list_filled-requires c =
    let r = c in
    let a = r in
    let k = a in
    let p = k in
    let s = p in
    let l = listable s.args.bytes.now s.args.short s.args.width s.args.clocks.now _ s.args.work.now _ _ s.args.list.now _ _ (for-list _ p.prepare-prepared.ensures) k.clear.ensures _ (ap fill_paper a.in_ok-chains.was) _ r.records-recs.ensures in
    (l.filled, l.chains-used)

pub returns : goal.returns
returns c =
    let f = c in
    let r = f in
    let a = r in
    let k = a in
    let p = k in
    let s = p in
    let l = listable s.args.bytes.now s.args.short s.args.width s.args.clocks.now _ s.args.work.now _ _ s.args.list.now _ _ (for-list _ p.prepare-prepared.ensures) k.clear.ensures _ (ap fill_paper a.in_ok-chains.was) _ r.records-recs.ensures in
    l.done _ _ _ f.list_filled.ensures
