-- The links by forks and joins, as the pass over the records takes them: all links of a trace without sends. Assumes nothing.
use Rattle.std.specs.Prelude.{ℕ, List, length}
use Rattle.records.specs.declared.Record.{Record}
use Rattle.records.specs.Records.{at}
use Rattle.ranks.specs.declared.Ordering.{Ordering}
use Rattle.ranks.specs.OrderingOf.{ordering_of}
use Rattle.order.specs.Links.{Links}
use Rattle.order.specs.Schedule.{links_of}
use Rattle.order.specs.Rank.{rank}

unfoldable pub ordering_at : List Record → ℕ → Ordering
ordering_at tr i = ordering_of (rank tr) (at tr i)

abbrev pub record_links : List Record → Links
record_links tr = links_of (ordering_at tr) (length tr)
