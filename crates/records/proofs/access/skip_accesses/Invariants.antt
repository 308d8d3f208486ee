use Rattle.records.specs.Bytes.{decode}
use Rattle.records.specs.Records.{leading}
use lib.ListN.{length}
use mathlib.Core.Path.{◌≡◌}
use Prim.Native.Nat.{◌+◌, ◌-◌, ◌≤◌}
use Rattle.records.proofs.access.skip_accesses.Given as goal

abbrev pub invariant-loop-i : goal.invariant-loop-i
invariant-loop-i l = (l.i ≤ l.n) × (l.n ≡ length (decode l.recs)) × (l.i + leading (decode l.recs) (l.n - l.i) l.i ≡ l.from + leading (decode l.recs) (l.n - l.from) l.from)

abbrev pub decreases-loop-i : goal.decreases-loop-i
decreases-loop-i l = l.n - l.i
