use native.Mathlib.Omega.{arith}
use mathlib.Core.Path.{refl, ◌∙◌}
use Rattle.races.proofs.KeepLaws.{kept-start, kept-all}
use Rattle.races.proofs.keeping.keep_rows.Goals as goal

pub loop-u-init : goal.loop-u-init
loop-u-init c = let pre = c.requires in (pre.0, omega arith, kept-start _ _ _ pre.1, refl)

pub keep_row-requires : goal.keep_row-requires
keep_row-requires c =
    let inv = c.loop-u.invariant in
    (inv.0, c.loop-u-test.true, inv.2)

pub loop-u-preserved : goal.loop-u-preserved
loop-u-preserved c =
    let test = c in
    let inv = test.loop-u.invariant in
    let row = c.keep_row in
    (inv.0, omega (arith, test.loop-u-test.true), row.ensures, row.auto.table ∙ inv.3)

pub shape_of-table : goal.shape_of-table
shape_of-table c = c.loop-u.invariant.3

pub returns : goal.returns
returns c =
    let inv = c.loop-u.invariant in
    kept-all _ _ _ inv.2 (omega (arith, inv.1, c.loop-u-test.false))
