use Prim.Native.Nat.{ℕ, ◌+◌, ◌≤◌, ◌<◌}
use mathlib.Core.Path.{◌≡◌}
use lib.ListN.{get_or}
use Rattle.order.proofs.merge.among_sixteen.Given as goal

abbrev pub invariant-loop-j : goal.invariant-loop-j
invariant-loop-j l = (l.j ≤ 16) × (l.hit ≤ 1) × (l.hit ≡ 0 → (k : ℕ) → k < l.j → get_or l.clocks (l.at + k) 0 ≡ get_or l.sizes (l.c + k) 0 → ⊥)
