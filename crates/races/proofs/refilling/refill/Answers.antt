use native.Mathlib.Omega.{arith}
use borrow.Author.Rules.{rules}
use mathlib.Core.Path.{◌≡◌, refl, ap, ◌∙◌}
use mathlib.Core.List.{List, ◌++◌}
use Prim.Native.Nat.{◌+◌, max}
use lib.ListN.{get_or}
use Rattle.records.specs.Bytes.{decode}
use Rattle.order.specs.Fill.{trace_clocks}
use Rattle.order.proofs.TableLaws.{events-few}
use Rattle.races.proofs.RefillLaws.{refilling-start, refilling-on, refilling-over, chosen_room, add-room, refilling-next, refilling-end, cleared-rest, cleared-zeros, cleared-refillable}
use Rattle.races.proofs.refilling.refill.Goals as goal

pub overflow_cast-layout : goal.overflow_cast-layout
overflow_cast-layout c = record { fits = omega (arith, c.args.layout.events_are, events-few c.requires.acceptable) }

pub loop-u-init : goal.loop-u-init
loop-u-init c =
    let again = cleared-refillable c.requires _ c.clear_rows.ensures in
    (again, refilling-start again (cleared-zeros c.requires _ c.clear_rows.ensures), refl)

pub offset_bounds-layout-u : goal.offset_bounds-layout-u
offset_bounds-layout-u c =
    let inv = c.loop-u.invariant in
    let h = chosen_room inv.0 inv.1 (refilling-on inv.0 inv.1 (omega (arith, inv.0.events_are, c.loop-u-test.true))) in
    search rules

pub bounds-layout-u : goal.bounds-layout-u
bounds-layout-u c =
    let inv = c.loop-u.invariant in
    chosen_room inv.0 inv.1 (refilling-on inv.0 inv.1 (omega (arith, inv.0.events_are, c.loop-u-test.true)))

pub overflow_cast-c : goal.overflow_cast-c
overflow_cast-c c =
    let inv = c.loop-u.invariant in
    record { fits = omega (arith, (add-room inv.0 inv.1 (refilling-on inv.0 inv.1 (omega (arith, inv.0.events_are, c.loop-u-test.true))) _ refl).1, inv.0.narrow) }

pub add_to_row-requires : goal.add_to_row-requires
add_to_row-requires c =
    let inv = c.loop-u.invariant in
    add-room inv.0 inv.1 (refilling-on inv.0 inv.1 (omega (arith, inv.0.events_are, c.loop-u-test.true))) _ refl

pub overflow_add-i : goal.overflow_add-i
overflow_add-i c =
    let inv = c.loop-u.invariant in
    record { fits = omega (arith, refilling-on inv.0 inv.1 (omega (arith, inv.0.events_are, c.loop-u-test.true)), inv.0.acceptable.few) }

pub loop-u-preserved : goal.loop-u-preserved
loop-u-preserved c =
    let inv = c.loop-u.invariant in
    let h = refilling-on inv.0 inv.1 (omega (arith, inv.0.events_are, c.loop-u-test.true)) in
    let m : c.max-chains.result ≡ max c.loop-u.chains (get_or c.args.layout.chosen.now c.loop-u.u 0 + 1) = search rules in
    let t = refilling-next inv.0 inv.1 h _ refl _ m _ c.add_to_row.ensures _ _ c.merge_links-i.ensures in
    (inv.0, t.1, c.merge_links-i.auto.clocks ∙ c.add_to_row.auto.clocks ∙ inv.2)

pub returns : goal.returns
returns c =
    let inv = c.loop-u.invariant in
    refilling-end inv.0 inv.1 (refilling-over inv.0 inv.1 (omega (arith, inv.0.events_are, c.loop-u-test.false)))
    ∙ ap (λ (xs : List _). trace_clocks (decode c.args.layout.recs.now) c.args.layout.width ++ xs) (cleared-rest c.requires _ c.clear_rows.ensures)
