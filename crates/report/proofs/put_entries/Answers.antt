use native.Mathlib.Omega.{arith}
use Rattle.report.proofs.TextLaws.{printing-start, printing-next, printing-end}
use Rattle.report.proofs.put_entries.Goals as goal

pub loop-i-init : goal.loop-i-init
loop-i-init c = printing-start _ _ _ _

pub put_entry-next-requires : goal.put_entry-next-requires
put_entry-next-requires c = let s4 = c in omega (arith, c.loop-i-test.true, s4.requires)

pub loop-i-smaller : goal.loop-i-smaller
loop-i-smaller c = let s4 = c in omega (arith, s4.loop-i-test.true)

pub loop-i-preserved : goal.loop-i-preserved
loop-i-preserved c =
    let s4 = c in
    printing-next _ _ _ _ s4.loop-i.invariant s4.loop-i-test.true c.put_entry-next.ensures

pub shape_of-text : goal.shape_of-text
shape_of-text c = c.loop-i.invariant.size

pub returns : goal.returns
returns c = printing-end _ _ _ _ c.loop-i.invariant c.loop-i-test.false
