use native.Mathlib.Omega.{arith}
use Rattle.listing.proofs.Text.{pair-text, pair-length}
use Rattle.listing.proofs.Store.{both, printed, no-space}
use Rattle.listing.proofs.put_pair.Goals as goal

pub returns-then-room-pair_width : goal.returns-then-room-pair_width
returns-then-room-pair_width c = no-space _ _ _ (rw pair-length (omega arith))

pub returns : goal.returns
returns c =
    let mark = c in
    let shape = mark in
    let cell = shape in
    let second = cell in
    let first = second in
    printed _
    (pair-text _ _ _ _ _)
    (both first.put_number-at_second.ensures (both second.put_number-at_cell.ensures (both cell.put_number-at_shape.ensures (both shape.put_shape-at_mark.ensures mark.put_mark.ensures))))
    (omega (arith, first))
