use mathlib.Core.Path.{◌≡◌}
use lib.ListN.{length}
use Rattle.records.specs.Bytes.{decode}
use Rattle.links.specs.Rule.{rank_in, walk}
use Rattle.links.proofs.link_walk.Given as goal

abbrev pub invariant-loop-j : goal.invariant-loop-j
invariant-loop-j l =
    (length l.table ≡ length l.initial.table) × (length l.sets ≡ length l.initial.sets) ×
    (walk (decode l.recs) (rank_in l.ranks) l.e.0 l.u l.j l.table l.sets ≡ walk (decode l.recs) (rank_in l.ranks) l.e.0 l.u l.from l.initial.table l.initial.sets)
