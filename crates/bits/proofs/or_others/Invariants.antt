use Prim.Native.Nat.{◌+◌, ◌-◌, ◌≤◌}
use mathlib.Core.Path.{◌≡◌}
use lib.ListN.{length}
use Rattle.bits.specs.Words.{or_others}
use Rattle.bits.proofs.or_others.Given as goal

abbrev pub invariant-loop-i : goal.invariant-loop-i
invariant-loop-i l =
    (l.i ≤ l.n) × (length l.words ≡ length l.initial.words) × (l.a + l.n ≤ length l.initial.words) × (l.b + l.n ≤ length l.others) ×
    (or_others l.others l.a l.b l.i (l.n - l.i) l.words ≡ or_others l.others l.a l.b 0 l.n l.initial.words)
