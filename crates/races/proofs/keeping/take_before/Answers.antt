use Prim.Native.Nat.{ℕ}
use mathlib.Core.Path.{◌≡◌, sym, ap, ◌∙◌}
use mathlib.Core.List.{List}
use native.Mathlib.Omega.{arith}
use lib.ListN.{length}
use Rattle.bits.specs.Table.{bit_of}
use Rattle.clocks.specs.Rows.{rows_if}
use Rattle.order.specs.loops.FromTable.{take_own}
use Rattle.order.proofs.FromTableLaws.{take_none, take_more, take-length, room_after}
use Rattle.races.proofs.keeping.take_before.Goals as goal

pub loop-t-init : goal.loop-t-init
loop-t-init c = (omega arith, sym (take_none _ _ _ _ _))

pub take_own-requires : goal.take_own-requires
take_own-requires c =
    let s = c in
    let l = c.loop-t in
    (room_after (ap length l.invariant.1 ∙ take-length _ _ _ _ _ _) s.requires, omega arith)

pub loop-t-preserved : goal.loop-t-preserved
loop-t-preserved c =
    let s = c in
    let l = c.loop-t in
    let k = s.args in
    let turn : List ℕ → List ℕ = λ cs. rows_if (bit_of k.table.now l.t k.u) (take_own k.layout.width k.u k.layout.chosen.now l.t cs) cs in
    (omega arith, c.take_own.ensures ∙ (ap turn l.invariant.1 ∙ sym (take_more _ _ _ _ _ _)))

pub shape_of-clocks : goal.shape_of-clocks
shape_of-clocks c = ap length c.loop-t.invariant.1 ∙ take-length _ _ _ _ _ _

pub returns : goal.returns
returns c = let e : c.loop-t.t ≡ c.args.u = omega arith in c.loop-t.invariant.1 ∙ simp e
