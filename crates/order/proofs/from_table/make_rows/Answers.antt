use Prim.Native.Nat.{◌≤◌, ◌<◌}
use mathlib.Core.Path.{refl, ◌∙◌}
use native.Mathlib.Omega.{arith}
use Rattle.order.proofs.FillTable.{going_start, going-room, going_next, going-stop, going_end}
use Rattle.order.proofs.from_table.make_rows.Goals as goal

pub loop-u-init : goal.loop-u-init
loop-u-init c = (going_start _ _ _ _ _ _ c.requires, refl, refl, refl)

pub make_row-next-requires : goal.make_row-next-requires
make_row-next-requires c =
    let at-loop = c in
    let start = at-loop in
    going-room _ _ _ _ _ _ _ _ _ _ (at-loop.loop-u.invariant.0 start.requires.links start.requires.tells) (omega arith)

pub shape_of-clocks-then-width-next : goal.shape_of-clocks-then-width-next
shape_of-clocks-then-width-next c =
    let at-make-row = c in
    at-make-row.make_row-next.auto.clocks ∙ at-make-row.loop-u.invariant.1

pub shape_of-sizes-then-width-next : goal.shape_of-sizes-then-width-next
shape_of-sizes-then-width-next c =
    let at-make-row = c in
    at-make-row.make_row-next.auto.sizes ∙ at-make-row.loop-u.invariant.2

pub shape_of-chosen-then-width-next : goal.shape_of-chosen-then-width-next
shape_of-chosen-then-width-next c =
    let at-make-row = c in
    at-make-row.make_row-next.auto.chosen ∙ at-make-row.loop-u.invariant.3

pub returns-then-width-next : goal.returns-then-width-next
returns-then-width-next c l t =
    let at-make-row = c in
    let at-loop = at-make-row in
    let less : at-loop.loop-u.u < at-loop.args.events = omega arith in
    going-stop _ _ _ _ _ _ _ _ _ _ (at-loop.loop-u.invariant.0 l t) less _ _ _ _ at-make-row.make_row-next.ensures c.if-width-next.true

pub loop-u-preserved : goal.loop-u-preserved
loop-u-preserved c =
    let at-make-row = c in
    let b = at-make-row.make_row-next in
    let at-loop = at-make-row in
    let i = at-loop.loop-u.invariant in
    let start = at-loop in
    let less : at-loop.loop-u.u < start.args.events = omega arith in
    let left : b.result ≤ start.args.width = omega arith in (
      λ l t. going_next _ _ _ _ _ _ _ _ _ _ (i.0 l t) less _ _ _ _ b.ensures left,
      b.auto.clocks ∙ i.1,
      b.auto.sizes ∙ i.2,
      b.auto.chosen ∙ i.3,
    )

pub shape_of-clocks : goal.shape_of-clocks
shape_of-clocks c = c.loop-u.invariant.1

pub shape_of-sizes : goal.shape_of-sizes
shape_of-sizes c = c.loop-u.invariant.2

pub shape_of-chosen : goal.shape_of-chosen
shape_of-chosen c = c.loop-u.invariant.3

pub returns : goal.returns
returns c l t = going_end _ _ _ _ _ _ _ _ _ _ (c.loop-u.invariant.0 l t) (omega arith)
