use native.Mathlib.Omega.{arith}
use mathlib.Core.Path.{refl, ap}
use Rattle.order.specs.Paper.{fill_paper}
use Rattle.std.proofs.lemmas.Result.{err_from_is_err_and}
use Rattle.races.proofs.EntryStores.{own-ranks}
use Rattle.pair.proofs.PairEnds.{not-asked, askable}
use Rattle.pair.proofs.ask_pair.Goals as goal

pub returns-in_err-chains : goal.returns-in_err-chains
returns-in_err-chains c =
    let s = c.args in
    let p = err_from_is_err_and c.from_residual.result c.from_residual.ensures.1 in
    not-asked s.bytes.now s.a.0 s.b.0 s.width s.clocks.now _ s.work.now _ _ s.list.now _ _
    c.prepare_pair-prepared.ensures c.clear.ensures _ _ (ap fill_paper c.in_err-chains.was) _ (rw (p.1, p.2))

pub overflow_sub-i : goal.overflow_sub-i
overflow_sub-i c =
    let at_clear = c in
    let at-prepare = at_clear in
    let s = at-prepare in
    let p = at-prepare.prepare_pair-prepared.ensures in
    let l = askable s.args.bytes.now s.args.a.0 s.args.b.0 s.args.width s.args.clocks.now _ s.args.work.now _ _ s.args.list.now _ _
    p at_clear.clear.ensures _ (ap fill_paper c.in_ok-chains.was) _ refl in
    l.both_in.first

pub overflow_sub-j : goal.overflow_sub-j
overflow_sub-j c =
    let at_clear = c in
    let at-prepare = at_clear in
    let s = at-prepare in
    let p = at-prepare.prepare_pair-prepared.ensures in
    let l = askable s.args.bytes.now s.args.a.0 s.args.b.0 s.args.width s.args.clocks.now _ s.args.work.now _ _ s.args.list.now _ _
    p at_clear.clear.ensures _ (ap fill_paper c.in_ok-chains.was) _ refl in
    l.both_in.second

pub invariant_of-filled : goal.invariant_of-filled
invariant_of-filled c =
    let at-answer = c in
    let at_clear = at-answer in
    let at-prepare = at_clear in
    let s = at-prepare in
    let p = at-prepare.prepare_pair-prepared.ensures in
    let l = askable s.args.bytes.now s.args.a.0 s.args.b.0 s.args.width s.args.clocks.now _ s.args.work.now _ _ s.args.list.now _ _
    p at_clear.clear.ensures _ (ap fill_paper at-answer.in_ok-chains.was) _ c.records.ensures in
    record { filled = own-ranks l.filled; chains_are = l.chains-used }

pub ask_filled-requires : goal.ask_filled-requires
ask_filled-requires c =
    let at_records = c in
    let at-answer = at_records in
    let at_clear = at-answer in
    let at-prepare = at_clear in
    let s = at-prepare in
    let p = at-prepare.prepare_pair-prepared.ensures in
    let l = askable s.args.bytes.now s.args.a.0 s.args.b.0 s.args.width s.args.clocks.now _ s.args.work.now _ _ s.args.list.now _ _
    p at_clear.clear.ensures _ (ap fill_paper at-answer.in_ok-chains.was) _ at_records.records.ensures in
    record { ranks_are = (l.filled.ranks_are, omega (arith, l.both_in.second, l.both_in.second_inside)); clear = l.clear }

pub returns : goal.returns
returns c =
    let at-ask-filled = c in
    let at_records = at-ask-filled in
    let at-answer = at_records in
    let at_clear = at-answer in
    let at-prepare = at_clear in
    let s = at-prepare in
    let p = at-prepare.prepare_pair-prepared.ensures in
    let l = askable s.args.bytes.now s.args.a.0 s.args.b.0 s.args.width s.args.clocks.now _ s.args.work.now _ _ s.args.list.now _ _
    p at_clear.clear.ensures _ (ap fill_paper at-answer.in_ok-chains.was) _ at_records.records.ensures in
    let a = at-ask-filled.ask_filled.ensures in
    l.answers _ _ _ a.0 a.1
