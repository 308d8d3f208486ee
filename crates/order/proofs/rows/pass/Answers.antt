use Rattle.order.proofs.PassLaws.{going_start, going-size, going-row, going-room, going_on, going_next, going-stop, going_end}
use Rattle.records.specs.Bytes.{decode}
use lib.ListN.{length}
use native.Mathlib.Omega.{arith}
use mathlib.Core.Path.{refl, ◌∙◌}
use Prim.Native.Nat.{◌≤◌, ◌<◌}
use Rattle.order.proofs.rows.pass.Goals as goal

pub loop-i-init : goal.loop-i-init
loop-i-init c =
    let start = c in
    (going_start _ _ _ _ _ _ start.requires.0 start.requires.1, refl, refl, refl)

pub clear_fresh-requires : goal.clear_fresh-requires
clear_fresh-requires c =
    let at_count = c in
    let start = at_count in
    let l = c.loop-i in
    let less : l.i < length (decode start.args.recs.now) = omega (arith, at_count.count-n.ensures) in
    let u = going-row _ _ _ _ l.invariant.0 less in
    (omega (arith, going-size _ _ _ _ l.invariant.0), omega arith)

pub begin_row-next-requires : goal.begin_row-next-requires
begin_row-next-requires c =
    let at-clear-fresh = c in
    let at-loop = at-clear-fresh in
    let at_count = at-loop in
    let start = at_count in
    let l = at-loop.loop-i in
    let less : l.i < length (decode start.args.recs.now) = omega (arith, at_count.count-n.ensures) in
    going-room _ _ _ _ l.invariant.0 less _ at-clear-fresh.clear_fresh.ensures

pub shape_of-clocks-then-width-next : goal.shape_of-clocks-then-width-next
shape_of-clocks-then-width-next c =
    let at-begin-row = c in
    let at-clear-fresh = at-begin-row in
    let at-loop = at-clear-fresh in
    at-begin-row.begin_row-next.auto.clocks ∙ (at-clear-fresh.clear_fresh.auto.clocks ∙ at-loop.loop-i.invariant.1)

pub shape_of-sizes-then-width-next : goal.shape_of-sizes-then-width-next
shape_of-sizes-then-width-next c =
    let at-begin-row = c in
    let at-loop = at-begin-row in
    at-begin-row.begin_row-next.auto.sizes ∙ at-loop.loop-i.invariant.2

pub shape_of-chosen-then-width-next : goal.shape_of-chosen-then-width-next
shape_of-chosen-then-width-next c =
    let at-begin-row = c in
    let at-loop = at-begin-row in
    at-begin-row.begin_row-next.auto.chosen ∙ at-loop.loop-i.invariant.3

pub returns-then-width-next : goal.returns-then-width-next
returns-then-width-next c =
    let at-begin-row = c in
    let at-clear-fresh = at-begin-row in
    let at-loop = at-clear-fresh in
    let at_count = at-loop in
    let start = at_count in
    let l = at-loop.loop-i in
    let less : l.i < length (decode start.args.recs.now) = omega (arith, at_count.count-n.ensures) in
    going-stop _ _ _ _ l.invariant.0 less _ at-clear-fresh.clear_fresh.ensures _ _ _ _ at-begin-row.begin_row-next.ensures c.if-width-next.true

pub overflow_add-u : goal.overflow_add-u
overflow_add-u c =
    let l = c.loop-i in
    let less : l.i < length (decode c.args.recs.now) = omega (arith, c.count-n.ensures) in
    omega (arith, going-row _ _ _ _ l.invariant.0 less)

pub loop-i-smaller : goal.loop-i-smaller
loop-i-smaller c =
    let at-pass-links = c in
    let at-if = at-pass-links in
    let at-clear-fresh = at-if in
    let at-loop = at-clear-fresh in
    let at_count = at-loop in
    let start = at_count in
    let l = at-loop.loop-i in
    let less : l.i < length (decode start.args.recs.now) = omega (arith, at_count.count-n.ensures) in
    let b = c in
    let on = going_on _ _ _ _ l.invariant.0 less _ at-clear-fresh.clear_fresh.ensures _ _ _ _ b.begin_row-next.ensures at-if.if-width-next.false _ _ _ at-pass-links.pass_links-i.ensures in
    omega (arith, on, at_count.count-n.ensures)

pub loop-i-preserved : goal.loop-i-preserved
loop-i-preserved c =
    let at-pass-links = c in
    let at-if = at-pass-links in
    let at-clear-fresh = at-if in
    let at-loop = at-clear-fresh in
    let at_count = at-loop in
    let start = at_count in
    let l = at-loop.loop-i in
    let less : l.i < length (decode start.args.recs.now) = omega (arith, at_count.count-n.ensures) in
    let b = c in
    let f = at-clear-fresh.clear_fresh in
    let x = at-pass-links.pass_links-i in (
      going_next _ _ _ _ l.invariant.0 less _ f.ensures _ _ _ _ b.begin_row-next.ensures at-if.if-width-next.false _ _ _ x.ensures,
      x.auto.clocks ∙ (b.begin_row-next.auto.clocks ∙ (f.auto.clocks ∙ l.invariant.1)),
      b.begin_row-next.auto.sizes ∙ l.invariant.2,
      x.auto.hints ∙ (b.begin_row-next.auto.chosen ∙ l.invariant.3),
    )

pub shape_of-clocks : goal.shape_of-clocks
shape_of-clocks c = c.loop-i.invariant.1

pub shape_of-sizes : goal.shape_of-sizes
shape_of-sizes c = c.loop-i.invariant.2

pub shape_of-chosen : goal.shape_of-chosen
shape_of-chosen c = c.loop-i.invariant.3

pub returns : goal.returns
returns c =
    let start = c in
    let more : length (decode start.args.recs.now) ≤ c.loop-i.i = omega (arith, c.count-n.ensures) in
    going_end _ _ _ _ c.loop-i.invariant.0 more
