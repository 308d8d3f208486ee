use borrow.Author.Tests.{ne_eqb}
use Rattle.trace.proofs.rule.place_fault.Goals as goal

pub returns-then-not-is_well_formed : goal.returns-then-not-is_well_formed
returns-then-not-is_well_formed c = simp (← c.requires, ne_eqb _ _ c.if-next-eq3.false, ← c.is_well_formed.ensures, c.if-not-is_well_formed.true)

pub returns-then-is_misplaced : goal.returns-then-is_misplaced
returns-then-is_misplaced c =
    let at-if1 = c in
    let start = at-if1 in
    simp (← start.requires, ne_eqb _ _ at-if1.if-next-eq3.false, ← c.is_well_formed.ensures, c.if-not-is_well_formed.false, ← c.is_misplaced.ensures, c.if-is_misplaced.true)

pub returns : goal.returns
returns c =
    let at-if1 = c in
    let start = at-if1 in
    simp (← start.requires, ne_eqb _ _ at-if1.if-next-eq3.false, ← c.is_well_formed.ensures, c.if-not-is_well_formed.false, ← c.is_misplaced.ensures, c.if-is_misplaced.false)
