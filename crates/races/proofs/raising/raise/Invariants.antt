use mathlib.Core.Path.{◌≡◌}
use Prim.Native.Nat.{◌-◌, ◌≤◌}
use lib.ListN.{length}
use Rattle.records.specs.Bytes.{decode}
use Rattle.races.specs.loops.Raising.{raise_down}
use Rattle.races.proofs.raising.raise.Given as goal

abbrev pub invariant-loop-j : goal.invariant-loop-j
invariant-loop-j l = (l.k ≤ l.j) × (l.j ≤ l.e) × (length l.clocks ≡ length l.initial.clocks) × (raise_down (decode l.layout.recs.now) l.layout.ranks.now l.layout.width l.chains l.u l.list l.k (l.j - l.k) l.clocks ≡ raise_down (decode l.layout.recs.now) l.layout.ranks.now l.layout.width l.chains l.u l.list l.k (l.e - l.k) l.initial.clocks)
