use mathlib.Core.Path.{sym, ◌∙◌}
use native.Mathlib.Omega.{arith}
use Rattle.clocks.proofs.RowLaws.{row_fits, row-stands, cleared_at, clear-row-none, clear-row-is}
use Rattle.clocks.proofs.clear_row.Goals as goal

pub returns-then-not-has_row : goal.returns-then-not-has_row
returns-then-not-has_row c = sym (clear-row-none _ _ _ (sym c.has_row.ensures ∙ c.if-not-has_row.true))

pub overflow_mul-a : goal.overflow_mul-a
overflow_mul-a c =
    let k = c.args in
    let f = row-stands _ k.width k.u (sym c.has_row.ensures ∙ c.if-not-has_row.false) in
    let g = row_fits k.u k.width c.ranges.u.fits f.narrow in
    omega arith

pub overflow_add-e : goal.overflow_add-e
overflow_add-e c =
    let k = c.args in
    let f = row-stands _ k.width k.u (sym c.has_row.ensures ∙ c.if-not-has_row.false) in
    let g = row_fits k.u k.width c.ranges.u.fits f.narrow in
    omega arith

pub offset_bounds-clocks-a : goal.offset_bounds-clocks-a
offset_bounds-clocks-a c =
    let k = c.args in
    let f = row-stands _ k.width k.u (sym c.has_row.ensures ∙ c.if-not-has_row.false) in
    let g = row_fits k.u k.width c.ranges.u.fits f.narrow in
    omega arith

pub slice_bounds-clear-end : goal.slice_bounds-clear-end
slice_bounds-clear-end c =
    let k = c.args in
    let f = row-stands _ k.width k.u (sym c.has_row.ensures ∙ c.if-not-has_row.false) in
    let g = row_fits k.u k.width c.ranges.u.fits f.narrow in
    omega arith

pub returns : goal.returns
returns c =
    let b = c in
    let k = b.args in
    let t = sym b.has_row.ensures ∙ b.if-not-has_row.false in
    cleared_at k.width k.u k.clocks.now _ (row-stands _ k.width k.u t).inside c.clear.ensures ∙ sym (clear-row-is _ _ _ t)
