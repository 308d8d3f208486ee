use native.Mathlib.Omega.{arith}
use mathlib.Core.Path.{refl, ap, ◌∙◌}
use lib.ListN.{length}
use Rattle.races.proofs.LeadLaws.{kept-length, may-keep, own_room, lead-whole}
use borrow.Author.Rules.{rules}
use Rattle.races.proofs.leading.lead_in.Goals as goal

pub overflow_cast-place : goal.overflow_cast-place
overflow_cast-place c = let args = c.args in record { fits = omega (arith, (c.type_inv.chosen args.t).fits) }

pub overflow_add-place : goal.overflow_add-place
overflow_add-place c = let h = own_room _ _ c.requires in search rules

pub offset_bounds-clocks-place : goal.offset_bounds-clocks-place
offset_bounds-clocks-place c = let h = own_room _ _ c.requires in search rules

pub bounds-clocks-place : goal.bounds-clocks-place
bounds-clocks-place c = own_room _ _ c.requires

pub keep_entries-requires : goal.keep_entries-requires
keep_entries-requires c =
    let pre = c.requires in
    (pre.room, pre.narrow, c.zeros-kept.ensures)

pub lead_down-requires : goal.lead_down-requires
lead_down-requires c =
    let at-clear-row = c in
    let at-keep = at-clear-row in
    let start = at-keep in
    let e = ap length at-keep.keep_entries.ensures ∙ kept-length _ _ _ _ in
    (may-keep _ _ start.requires at-clear-row.clear_row.auto.clocks, omega (arith, e))

pub raise_to-requires : goal.raise_to-requires
raise_to-requires c =
    let at-lead-down = c in
    let at-clear-row = at-lead-down in
    let start = at-clear-row in
    let e = at-lead-down.lead_down.auto.clocks ∙ at-clear-row.clear_row.auto.clocks in
    omega (arith, e, own_room _ _ start.requires)

pub returns : goal.returns
returns c =
    let at-raise-to = c in
    let at-lead-down = at-raise-to in
    let at-clear-row = at-lead-down in
    let at-keep = at-clear-row in
    lead-whole _ _ _ _ _ _ _ _ _ _ _ refl refl at-keep.keep_entries.ensures at-clear-row.clear_row.ensures at-lead-down.lead_down.ensures at-raise-to.raise_to.ensures
