use mathlib.Core.Path.{◌≡◌}
use lib.ListN.{length}
use Rattle.records.specs.Bytes.{decode}
use Rattle.links.specs.Begin.{last_send}
use Rattle.links.proofs.last_send_to.Given as goal

abbrev pub invariant-loop-j : goal.invariant-loop-j
invariant-loop-j l = last_send (decode l.recs) l.e.0 l.j ≡ last_send (decode l.recs) l.e.0 (length (decode l.recs))
