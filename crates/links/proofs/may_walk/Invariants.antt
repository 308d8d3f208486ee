use mathlib.Core.Path.{◌≡◌}
use lib.ListN.{length}
use Rattle.records.specs.Bytes.{decode}
use Rattle.links.specs.Rule.{rank_in}
use Rattle.links.specs.Begin.{may}
use Rattle.links.proofs.may_walk.Given as goal

abbrev pub invariant-loop-j : goal.invariant-loop-j
invariant-loop-j l =
    (length l.sent ≡ length l.initial.sent) × (may (decode l.recs) (rank_in l.ranks) l.e.0 l.j l.sent ≡ may (decode l.recs) (rank_in l.ranks) l.e.0 l.from l.initial.sent)
