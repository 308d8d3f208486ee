-- What a record says of links and begins. Definitions alone. Assumes nothing.
use Rattle.std.specs.Prelude.{ℕ, zero, suc, ◌-◌, Bool, true, false}
use Rattle.records.specs.declared.Record.{Record}
use Rattle.ranks.specs.declared.Ordering.{Ordering}
use Rattle.ranks.specs.declared.Ordering.TheVariants.{Link, Begin, Nothing}
use Rattle.records.specs.Records.{is_begin, is_fork, is_join}

-- a link between event actions by rank, where both begin
abbrev pub link_of : ℕ → ℕ → Ordering
link_of zero u = Nothing
link_of (suc p) zero = Nothing
link_of (suc p) (suc u) = Link p u

abbrev pub pick_ordering : Bool → Ordering → Ordering → Ordering
pick_ordering true a b = a
pick_ordering false a b = b

-- what a record says of links and begins, where ranks are given by event number
unfoldable pub ordering_of : (ℕ → ℕ) → Record → Ordering
ordering_of ranks r =
    pick_ordering (is_begin r) (Begin (ranks r.first - 1))
    (pick_ordering (is_fork r) (link_of (ranks r.first) (ranks r.second))
    (pick_ordering (is_join r) (link_of (ranks r.second) (ranks r.first)) Nothing))
