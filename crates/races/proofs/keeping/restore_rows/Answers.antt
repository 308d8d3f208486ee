use native.Mathlib.Omega.{arith}
use mathlib.Core.Path.{refl, ◌∙◌}
use borrow.Author.Rules.{rules}
use Rattle.races.proofs.RestoreLaws.{restoring-start, restoring-next, restoring-end, take-room, tick-room}
use Rattle.races.proofs.keeping.restore_rows.Goals as goal

pub loop-u-init : goal.loop-u-init
loop-u-init c = (c.requires, restoring-start, refl)

pub overflow_cast-u : goal.overflow_cast-u
overflow_cast-u c = let inv = c.loop-u.invariant in record { fits = omega (arith, c.loop-u-test.true, inv.0.few) }

pub take_before-requires : goal.take_before-requires
take_before-requires c =
    let inv = c.loop-u.invariant in
    take-room inv.0 (inv.1 inv.0) c.loop-u-test.true c.clear_row.auto.clocks

pub offset_bounds-layout-u : goal.offset_bounds-layout-u
offset_bounds-layout-u c = let inv = c.loop-u.invariant in let h = inv.0.known in search rules

pub bounds-layout-u : goal.bounds-layout-u
bounds-layout-u c = let inv = c.loop-u.invariant in omega (arith, c.loop-u-test.true, inv.0.known)

pub overflow_cast-layout : goal.overflow_cast-layout
overflow_cast-layout c =
    let inv = c.loop-u.invariant in
    let room = tick-room inv.0 (inv.1 inv.0) c.loop-u-test.true c.clear_row.ensures c.take_before.ensures _ refl (c.take_before.auto.clocks ∙ c.clear_row.auto.clocks) in
    record { fits = omega (arith, room.1, inv.0.narrow) }

pub add_to_row-requires : goal.add_to_row-requires
add_to_row-requires c =
    let inv = c.loop-u.invariant in
    let cleared = c.clear_row in
    let taken = c.take_before in
    tick-room inv.0 (inv.1 inv.0) c.loop-u-test.true cleared.ensures taken.ensures _ refl (taken.auto.clocks ∙ cleared.auto.clocks)

pub loop-u-preserved : goal.loop-u-preserved
loop-u-preserved c =
    let inv = c.loop-u.invariant in
    let cleared = c.clear_row in
    let taken = c.take_before in
    let added = c.add_to_row in (
      inv.0,
      λ f. restoring-next f (inv.1 f) c.loop-u-test.true cleared.ensures taken.ensures _ refl _ added.ensures,
      added.auto.clocks ∙ taken.auto.clocks ∙ cleared.auto.clocks ∙ inv.2,
    )

pub shape_of-clocks : goal.shape_of-clocks
shape_of-clocks c = c.loop-u.invariant.2

pub returns : goal.returns
returns c = let inv = c.loop-u.invariant in λ f. restoring-end f (inv.1 f) c.loop-u-test.false
