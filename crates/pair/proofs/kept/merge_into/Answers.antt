use Prim.Native.Nat.{◌+◌, ◌-◌}
use native.Mathlib.Omega.{arith}
use Rattle.pair.proofs.MergeLaws.{merged-part}
use Rattle.pair.proofs.kept.merge_into.Goals as goal

pub returns : goal.returns
returns c = let s = c in merged-part s.args.clocks.now s.args.row.now _ s.args.at (s.args.at + s.args.chains - s.args.at) s.args.chains (omega arith) c.merge_part.ensures
