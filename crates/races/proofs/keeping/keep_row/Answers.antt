use mathlib.Core.Path.{refl, ◌∙◌}
use native.Mathlib.Omega.{arith}
use Rattle.races.proofs.KeepLaws.{kept_row}
use Rattle.races.proofs.keeping.keep_row.Goals as goal

pub loop-t-init : goal.loop-t-init
loop-t-init c = let pre = c.requires in (pre.0, pre.1, omega arith, pre.2, refl)

pub keep_bit-requires : goal.keep_bit-requires
keep_bit-requires c =
    let inv = c.loop-t.invariant in
    let h = c.loop-t-test.true in
    (inv.0.rows _ _ (omega (arith, inv.1, h)) inv.1, h, omega (arith, inv.0.few, inv.1), inv.3)

pub loop-t-preserved : goal.loop-t-preserved
loop-t-preserved c =
    let test = c in
    let inv = test.loop-t.invariant in
    (inv.0, inv.1, omega (arith, test.loop-t-test.true), c.keep_bit.ensures, c.keep_bit.auto.table ∙ inv.4)

pub shape_of-table : goal.shape_of-table
shape_of-table c = c.loop-t.invariant.4

pub returns : goal.returns
returns c = kept_row _ _ _ c.loop-t.invariant.3 c.loop-t-test.false
