use mathlib.Core.Path.{sym}
use native.Mathlib.Omega.{arith}
use Rattle.question.proofs.ask_linked.Goals as goal

pub slice_bounds-ask_read-end : goal.slice_bounds-ask_read-end
slice_bounds-ask_read-end c = sym c.read_linked-reading.ensures.1.long

pub ask_read-requires : goal.ask_read-requires
ask_read-requires c = let e = c.read_linked-reading.ensures in (e.0, λ x a. (e.1.accepted x a).1)

pub returns : goal.returns
returns c = c.ask_read.ensures
