use Rattle.records.specs.Bytes.{decode}
use Rattle.records.specs.Records.{leading}
use mathlib.Core.Path.{◌≡◌}
use Prim.Native.Nat.{◌+◌, ◌-◌, ◌≤◌}
use Rattle.records.proofs.access.skip_last.Given as goal

abbrev pub invariant-loop-at : goal.invariant-loop-at
invariant-loop-at l = (l.at ≤ l.n) × (l.at + leading (decode l.recs) (l.n - l.at) l.at ≡ l.i + leading (decode l.recs) (l.n - l.i) l.i)
