use Rattle.order.specs.loops.Pass.{enter_row}
use Rattle.order.proofs.FlatLaws.{part-entry, ticked-part}
use Rattle.clocks.proofs.RowLaws.{one_more-at}
use borrow.Author.Tests.{le-leb, lt-leb}
use native.Mathlib.Omega.{arith}
use mathlib.Core.Path.{refl}
use Rattle.order.proofs.rows.begin_row.Goals as goal

pub returns-then-width-c : goal.returns-then-width-c
unfolding enter_row
returns-then-width-c c = rw (← c.choose_hinted-c.ensures, le-leb _ _ c.if-width-c.true) (record { clocks_are = refl; sizes_are = refl; chosen_are = refl; chains_are = omega arith })

pub overflow_add-sizes : goal.overflow_add-sizes
overflow_add-sizes c =
    let at-if = c in
    let at-choose-hinted = at-if in
    let start = at-choose-hinted in
    let f = start.requires.few_members at-choose-hinted.choose_hinted-c.result at-if.if-width-c.false in
    omega arith

pub returns-then-chains-c : goal.returns-then-chains-c
unfolding enter_row
returns-then-chains-c c =
    let at-add-one = c in
    let at-if = at-add-one in
    let at-choose-hinted = at-if in
    let q = at-choose-hinted.choose_hinted-c in
    let f = at-if.if-width-c.false in
    let a = c in
    let p = part-entry a.args.width a.args.u q.result a.args.clocks.now a.requires.room.row f in
    rw (← q.ensures, lt-leb _ _ f)
    (record {
      clocks_are = ticked-part a.args.width a.args.u q.result a.args.clocks.now _ a.requires.room.row f
          (one_more-at _ q.result p.0 (rw p.1 (a.requires.few_entries q.result f)) at-add-one.add_one.ensures);
      sizes_are = refl;
      chosen_are = refl;
      chains_are = omega arith;
    })

pub returns : goal.returns
unfolding enter_row
returns c =
    let at-add-one = c in
    let at-if = at-add-one in
    let at-choose-hinted = at-if in
    let q = at-choose-hinted.choose_hinted-c in
    let f = at-if.if-width-c.false in
    let a = c in
    let p = part-entry a.args.width a.args.u q.result a.args.clocks.now a.requires.room.row f in
    rw (← q.ensures, lt-leb _ _ f)
    (record {
      clocks_are = ticked-part a.args.width a.args.u q.result a.args.clocks.now _ a.requires.room.row f
          (one_more-at _ q.result p.0 (rw p.1 (a.requires.few_entries q.result f)) at-add-one.add_one.ensures);
      sizes_are = refl;
      chosen_are = refl;
      chains_are = omega arith;
    })
