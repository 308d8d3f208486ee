-- What makes the links of a trace: forks, sends and joins, and the link rule. Assumes nothing.
use Rattle.std.specs.Prelude.{ℕ, zero, suc, ◌-◌, Bool, cond, not, ◌&&◌, List, [], map, eqb, ltb}
use Rattle.records.specs.declared.Record.{Record}
use Rattle.records.specs.Records.{at, past, is_begin, is_join, begins}
use Rattle.coverage.specs.Below.{some, upto}
use Rattle.records.specs.Kinds.{starts}
use Rattle.precedence.specs.Table.{table, ahead}
use Rattle.ranks.specs.declared.Ordering.{Ordering}
use Rattle.ranks.specs.declared.Ordering.TheVariants.{Begin, Nothing}
use Rattle.ranks.specs.OrderingOf.{link_of, pick_ordering}
use Rattle.order.specs.Rank.{rank}

-- what a record says of links and begins, where ranks are given by event number; sends are "ordering as a fork does"
unfoldable pub linking_of : (ℕ → ℕ) → Record → Ordering
linking_of ranks r =
    pick_ordering (is_begin r) (Begin (ranks r.first - 1))
    (pick_ordering (starts r) (link_of (ranks r.first) (ranks r.second))
    (pick_ordering (is_join r) (link_of (ranks r.second) (ranks r.first)) Nothing))

module _ (tr : List Record) where
  unfoldable pub linking_at : ℕ → Ordering
  linking_at i = linking_of (rank tr) (at tr i)

  -- "Where one send ≼ another on the same link, the first's target happens before the second's": record x is a send to another event than the one
  -- that record i begins, and is before a send y to that event on the same link
  unfoldable pub puts_behind : ℕ → ℕ → Bool
  puts_behind i x = not (eqb (at tr x).second (at tr i).first) && some i (λ y. ltb x y && ahead tr (table tr i) (at tr i).first x y)

  -- the rows of the targets of these sends
  unfoldable pub targets_at : ℕ → List ℕ
  targets_at i = map (λ x. rank tr (at tr x).second - 1) (upto i (puts_behind i))

  -- the direct predecessors of row u by the link rule, where row u begins among the first n records
  unfoldable pub behind : ℕ → ℕ → List ℕ
  behind zero u = []
  behind (suc i) u = cond (is_begin (at tr i) && eqb (begins (past tr i)) u) (targets_at i) (behind i u)
