use Prim.Native.Nat.{◌-◌, ◌≤◌}
use mathlib.Core.Path.{◌≡◌}
use lib.ListN.{length}
use Rattle.records.specs.Bytes.{decode}
use Rattle.links.specs.Rule.{rank_in}
use Rattle.links.specs.Fill.{fill_from}
use Rattle.links.proofs.fill_rows.Given as goal

abbrev pub invariant-loop-i : goal.invariant-loop-i
invariant-loop-i l =
    (l.i ≤ l.n) × (length l.table ≡ length l.initial.table) × (length l.last ≡ length l.initial.last) ×
    (fill_from (decode l.recs) (rank_in l.ranks) l.i (l.n - l.i) l.table l.last ≡ fill_from (decode l.recs) (rank_in l.ranks) 0 l.n l.initial.table l.initial.last)
