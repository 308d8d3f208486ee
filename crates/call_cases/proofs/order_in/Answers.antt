use native.Mathlib.Omega.{arith}
use lib.ListN.{length-take}
use Rattle.call_cases.proofs.order_in.Goals as goal

pub slice_bounds-ask_order-end : goal.slice_bounds-ask_order-end
slice_bounds-ask_order-end c = simp length-take (omega arith)
