use native.Mathlib.Omega.{arith}
use mathlib.Core.Path.{refl, ap, ◌∙◌}
use lib.ListN.{length, length-set}
use Rattle.slices.proofs.Cleared.{zeros-length, cleared-whole}
use Rattle.pair.proofs.KeptLaws.{none-bytes}
use Rattle.pair.proofs.KeptSteps.{in-trace, start-bounds, start-split, start-passing, marks-all}
use Rattle.pair.proofs.kept.mark_leading.Goals as goal

pub overflow_mul-u : goal.overflow_mul-u
overflow_mul-u c = let s = c in omega (arith, start-bounds s.requires)

pub merge_into-requires : goal.merge_into-requires
merge_into-requires c =
    let s = c in
    let e = ap length (cleared-whole s.args.row.now refl c.clear.ensures) ∙ zeros-length (length s.args.row.now) in
    (omega (arith, start-bounds s.requires), omega (arith, start-bounds s.requires, s.requires.row_room, e))

pub note-requires : goal.note-requires
note-requires c =
    let at-bytes- = c in
    let s = c in (s.requires.filled.acceptable, c.block_start-lo.ensures.low, omega (arith, in-trace s.requires), rw at-bytes-.zeros-cells.ensures none-bytes)

pub bounds-work-u : goal.bounds-work-u
bounds-work-u c = let s = c in omega (arith, start-bounds s.requires, s.requires.clear.work_room)

pub pass_down-requires : goal.pass_down-requires
pass_down-requires c =
    let at-note = c in
    let at-block-start = at-note in
    let at-merge-into = at-block-start in
    let at_clear = at-merge-into in
    let at-bytes- = at_clear in
    let s = c in
    let e = ap length (cleared-whole s.args.row.now refl at_clear.clear.ensures) ∙ zeros-length (length s.args.row.now) in
    record { passing = start-passing s.requires at-bytes-.zeros-cells.ensures at-note.note.ensures _ (at-merge-into.merge_into.ensures.size ∙ e); split = (start-split s.requires at-block-start.block_start-lo.ensures, omega (arith, start-bounds s.requires)) }

pub shape_of-work : goal.shape_of-work
shape_of-work c =
    let at-pass-down = c in
    at-pass-down.pass_down.ensures.passes.rest.size ∙ simp length-set

pub returns : goal.returns
returns c =
    let at-pass-down = c in
    let at-note = at-pass-down in
    let at-block-start = at-note in
    let at-merge-into = at-block-start in
    let at_clear = at-merge-into in
    let at-bytes- = at_clear in
    let s = c in
    marks-all s.requires at-bytes-.zeros-cells.ensures at-note.note.ensures _ _ _ _ _ (cleared-whole s.args.row.now refl at_clear.clear.ensures) at-merge-into.merge_into.ensures at-block-start.block_start-lo.ensures at-pass-down.pass_down.ensures
