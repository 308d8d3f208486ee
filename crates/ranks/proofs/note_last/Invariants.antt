use Rattle.ranks.specs.loops.RanksTo.{RanksTo}
use Rattle.records.specs.Bytes.{decode}
use lib.ListN.{length}
use mathlib.Core.Path.{◌≡◌}
use Prim.Native.Nat.{◌≤◌}
use Rattle.ranks.proofs.note_last.Given as goal

abbrev pub invariant-loop-i : goal.invariant-loop-i
invariant-loop-i l = (l.found ≤ l.i) × (l.i ≤ l.n) × (length l.ranks ≡ length l.initial.ranks) × RanksTo (decode l.recs) l.i l.ranks l.found
