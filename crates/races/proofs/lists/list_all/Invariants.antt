use Rattle.order.proofs.Counted.{counted}
use lib.Dec.{eqb}
use mathlib.Core.Bool.{not}
use Rattle.races.proofs.EntryStores.{Listing}
use Rattle.races.specs.loops.Candidates.{Tables}
use Rattle.records.specs.Bytes.{decode}
use mathlib.Core.Path.{◌≡◌}
use Rattle.races.proofs.lists.list_all.Given as goal

abbrev pub invariant-loop-b : goal.invariant-loop-b
invariant-loop-b g l = Listing (not (eqb g.row.WRITING 0)) (decode l.filled.layout.recs.now) l.short l.initial.list l.list l.k l.b × Tables (decode l.filled.layout.recs.now) l.short l.b l.cells.seen l.cells.writes × (l.begun ≡ counted (decode l.filled.layout.recs.now) l.b)
