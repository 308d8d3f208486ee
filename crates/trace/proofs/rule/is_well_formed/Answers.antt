use mathlib.Core.Bool.{and-false, and-true}
use borrow.Author.Tests.{lt-ltb, le-ltb, eq-eqb, ne_eqb}
use Rattle.trace.specs.Rule.{well_formed}
use Rattle.trace.proofs.rule.is_well_formed.Goals as goal

pub returns-then-second-ne0 : goal.returns-then-second-ne0
unfolding well_formed
returns-then-second-ne0 c = simp (lt-ltb _ _ c.if-r-lt3.true, ne_eqb _ _ c.if-second-ne0.true, and-false)

pub returns-then-r-lt3 : goal.returns-then-r-lt3
unfolding well_formed
returns-then-r-lt3 c = simp (lt-ltb _ _ c.if-r-lt3.true, eq-eqb _ _ c.if-second-ne0.false, and-true, c.is_numbered.ensures)

pub returns-then-not-is_numbered : goal.returns-then-not-is_numbered
unfolding well_formed
returns-then-not-is_numbered c =
    let n = c.is_numbered-2 in
    simp (le-ltb _ _ c.if-r-lt3.false, ← n.ensures, c.if-not-is_numbered.true, and-false)

pub returns : goal.returns
unfolding well_formed
returns c =
    let n = c.is_numbered-2 in
    simp (le-ltb _ _ c.if-r-lt3.false, ← n.ensures, c.if-not-is_numbered.false, and-true, c.is_numbered-3.ensures)
