use Prim.Native.Nat.{◌≤◌}
use Rattle.pair.proofs.MergeLaws.{Merging}
use Rattle.pair.proofs.kept.merge_part.Given as goal

abbrev pub invariant-loop-c : goal.invariant-loop-c
invariant-loop-c l = (l.c ≤ l.chains) × Merging l.part l.c l.initial.row l.row
