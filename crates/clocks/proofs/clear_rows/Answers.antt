use mathlib.Core.Path.{◌≡◌, sym, ap, ◌∙◌}
use native.Mathlib.Omega.{arith}
use lib.ListN.{length}
use Rattle.clocks.specs.Rows.{clear_row}
use Rattle.clocks.proofs.RowLaws.{clear_none, clear-more, clear-rows-length}
use Rattle.clocks.proofs.clear_rows.Goals as goal

pub loop-u-init : goal.loop-u-init
loop-u-init c = (omega arith, sym (clear_none _ _))

pub loop-u-preserved : goal.loop-u-preserved
loop-u-preserved c =
    let at-loop = c in
    (omega arith, c.clear_row.ensures ∙ (ap (clear_row _ _) at-loop.loop-u.invariant.1 ∙ sym (clear-more _ _ _)))

pub shape_of-clocks : goal.shape_of-clocks
shape_of-clocks c = ap length c.loop-u.invariant.1 ∙ clear-rows-length _ _ _

pub returns : goal.returns
returns c = let e : c.loop-u.u ≡ c.args.rows = omega arith in c.loop-u.invariant.1 ∙ simp e
