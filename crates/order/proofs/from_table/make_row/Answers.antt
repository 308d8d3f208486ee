use Prim.Native.Nat.{ℕ}
use mathlib.Core.Path.{sym, ap, ◌∙◌, subst}
use mathlib.Core.List.{List}
use lib.ListN.{set, length-set}
use Rattle.bits.specs.Table.{bit_of}
use Rattle.order.specs.loops.Pass.{RoomToBegin, begin_row, Are}
use Rattle.order.specs.loops.FromTable.{take_before, ready_row, make_row}
use Rattle.order.proofs.from_table.make_row.Goals as goal

pub begin_row-requires : goal.begin_row-requires
unfolding ready_row
begin_row-requires c =
    let s = c in
    let k = s.args in
    let taken = take_before (λ t. bit_of k.table.now t k.u) k.width k.u k.chosen.now k.u in
    let at_take = c in
    let e = at_take.take_before.ensures ∙ ap taken at_take.clear_row.ensures in
    subst (λ (cs : List ℕ).
    RoomToBegin k.width k.u (record { clocks = cs; sizes = k.sizes.now; chosen = set k.chosen.now k.u 1024; chains = k.chains }))
    (sym e) s.requires.to_begin

pub shape_of-chosen : goal.shape_of-chosen
shape_of-chosen c =
    let at-begin = c in
    let at_take = at-begin in
    let start = at_take in
    let k = start.args in
    at-begin.begin_row.auto.chosen ∙ length-set k.chosen.now k.u 1024

pub returns : goal.returns
unfolding make_row ready_row
returns c =
    let at-begin = c in
    let at_take = at-begin in
    let start = at_take in
    let k = start.args in
    let b = at-begin.begin_row in
    let taken = take_before (λ t. bit_of k.table.now t k.u) k.width k.u k.chosen.now k.u in
    let e = at_take.take_before.ensures ∙ ap taken at_take.clear_row.ensures in
    subst (λ (cs : List ℕ).
    Are (begin_row k.width k.u (record { clocks = cs; sizes = k.sizes.now; chosen = set k.chosen.now k.u 1024; chains = k.chains }))
    b.new.clocks b.new.sizes b.new.chosen b.result)
    e b.ensures
