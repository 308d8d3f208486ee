use mathlib.Core.Path.{refl, sym, ap, ◌∙◌, subst}
use lib.Dec.{T}
use lib.ListN.{length}
use native.Mathlib.Omega.{arith}
use Rattle.pair.proofs.KeptSteps.{bounds, passes-by, passes-below, passes-merged}
use Rattle.pair.proofs.kept.pass_row.Goals as goal
use Rattle.pair.proofs.kept.pass_row.Goals.{then-row-c+else-not-have_conflict, else-row-c}

pub offset_bounds-filled-t : goal.offset_bounds-filled-t
offset_bounds-filled-t c = let s = c in let b = bounds s.requires.0 s.requires.1 in omega (arith, b)

pub bounds-filled-t : goal.bounds-filled-t
bounds-filled-t c = let s = c in let b = bounds s.requires.0 s.requires.1 in omega (arith, b)

pub overflow_cast-c : goal.overflow_cast-c
overflow_cast-c c = let s = c in let b = bounds s.requires.0 s.requires.1 in omega (arith, b)

pub offset_bounds-row-c : goal.offset_bounds-row-c
offset_bounds-row-c c = let s = c in let b = bounds s.requires.0 s.requires.1 in omega (arith, b)

pub bounds-row-c : goal.bounds-row-c
bounds-row-c c = let s = c in let b = bounds s.requires.0 s.requires.1 in omega (arith, b)

pub overflow_mul-t : goal.overflow_mul-t
overflow_mul-t c = let s = c in let b = bounds s.requires.0 s.requires.1 in omega (arith, b)

pub overflow_add-t : goal.overflow_add-t
overflow_add-t c = let s = c in let b = bounds s.requires.0 s.requires.1 in omega (arith, b)

pub offset_bounds-filled-t-2 : goal.offset_bounds-filled-t-2
offset_bounds-filled-t-2 c = let s = c in let b = bounds s.requires.0 s.requires.1 in omega (arith, b)

pub bounds-filled-t-2 : goal.bounds-filled-t-2
bounds-filled-t-2 c = let s = c in let b = bounds s.requires.0 s.requires.1 in omega (arith, b)

pub returns-then-not-have_conflict : goal.returns-then-not-have_conflict
returns-then-not-have_conflict c =
    let s = c in
    passes-by s.requires.0 s.requires.1 c.if-row-c.true (λ w. subst T (c.if-not-have_conflict.true) (c.have_conflict.ensures.1 w))

pub overflow_mul-t-then-row-c : goal.overflow_mul-t-then-row-c
overflow_mul-t-then-row-c c = let s = c in let b = bounds s.requires.0 s.requires.1 in omega (arith, b)

pub merge_into-requires : goal.merge_into-requires
merge_into-requires c =
    let s = c in
    let b = bounds s.requires.0 s.requires.1 in
    (omega (arith, b), omega (arith, b, s.requires.0.row_room))

pub bounds-work-t : goal.bounds-work-t
bounds-work-t c = let s = c in let b = bounds s.requires.0 s.requires.1 in omega (arith, b)

pub shape_of-row : goal.shape_of-row
shape_of-row c =
    let at-if = c in
    elim at-if.if-row-c.branch [ then-row-c+else-not-have_conflict w ↦ ap length w.row-is ∙ w.merge_into.ensures.size | else-row-c w ↦ ap length w.row-is ]

pub returns : goal.returns
returns c =
    let at-if = c in
    let s = c in
    let n = c.note.ensures in
    let j = at-if.if-row-c in
    elim j.branch [ then-row-c+else-not-have_conflict w ↦ passes-merged s.requires.0 s.requires.1 _ _ refl n (w.have_conflict.ensures.0 (subst T (sym w.if-not-have_conflict.false) tt)) j.row (rw w.row-is w.merge_into.ensures) | else-row-c w ↦ passes-below s.requires.0 s.requires.1 _ _ refl n w.if-row-c.false j.row w.row-is ]
