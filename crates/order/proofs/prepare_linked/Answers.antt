use mathlib.Core.Path.{sym}
use Rattle.order.proofs.prepare_linked.Goals as goal

pub slice_bounds-fill_within-end : goal.slice_bounds-fill_within-end
slice_bounds-fill_within-end c =
    sym c.read_linked-reading.ensures.1.long

pub fill_within-requires : goal.fill_within-requires
fill_within-requires c =
    let at_read = c in
    let start = c in
    let e = at_read.read_linked-reading.ensures in
    (e.0, start.requires, λ t a. (e.1.accepted t a).1)
