-- The order question. "The order question takes trace, width and clocks, and compares t's entry at t's chain in both rows. t's chain is taken from
-- the trace. It gives that comparison for any clock contents"; "The order question is to say one of four: same event action, first happens before
-- second, second before first, unordered." Assumes nothing.
use Rattle.std.specs.Prelude.{ℕ, ◌≡◌, Bool, not, ◌&&◌, List, Result, Ok, Err, ◌≢◌, ◌↔◌, eqb, length}
use Rattle.records.specs.declared.Record.{Record}
use Rattle.trace.specs.declared.Refusal.{Refusal}
use Rattle.trace.specs.Paper.{number_of}
use Rattle.trace.specs.Reply.{Reply, refused, gives, demand, then}
use Rattle.trace.specs.Reading.{records_in, read_reply}
use Rattle.clocks.specs.declared.Relation.{Relation}
use Rattle.clocks.specs.WayRound.{WayRound, same_action, first_before, second_before, unordered, relation_paper, way_round}
use Rattle.order.specs.HappensBefore.{HappensBefore}
use Rattle.order.specs.Rank.{rank}
use Rattle.order.specs.Compared.{compared}
use Rattle.order.specs.Lent.{no_work, spaces, enough_chains}

abbrev pub order_paper : Result Relation Refusal → Reply WayRound
order_paper (Ok r) = gives (relation_paper r)
order_paper (Err f) = refused (number_of f.reason) f.place.0

-- "Equal event numbers give the first reply over any clocks": else t's entry at t's chain is compared in both rows, and then u's at u's chain
unfoldable pub related_in : List Record → ℕ → List ℕ → ℕ → ℕ → WayRound
related_in tr width clocks t u = way_round (eqb t u) (compared tr width clocks t u) (compared tr width clocks u t)

-- "11: an event asked about has no begin in the trace"
unfoldable pub both_begin : List Record → ℕ → ℕ → Bool
both_begin tr t u = not (eqb (rank tr t) 0) && not (eqb (rank tr u) 0)

-- an accepted trace of that many event actions: 11, 21, 23
unfoldable pub order_trace : List Record → ℕ → ℕ → List ℕ → ℕ → ℕ → Reply WayRound
order_trace tr events width clocks t u =
    demand (both_begin tr t u) 11 0
    (spaces events width (length clocks) (no_work events) (enough_chains tr events width (gives (related_in tr width clocks t u))))

unfoldable pub order_reply : List ℕ → ℕ → List ℕ → ℕ → ℕ → Reply WayRound
order_reply b width clocks t u = then (read_reply b) (λ read. order_trace (records_in b read) read.events width clocks t u)

-- "over clocks that filling left the unordered reply comes exactly when neither happens before the other"; and so each of the other three
pub record TellsWayRound (tr : List Record) (b : List ℕ) (width : ℕ) (clocks : List ℕ) (t u : ℕ) : Type 0 where
  pub says : WayRound
  pub reply : order_reply b width clocks t u ≡ gives says
  pub same_exactly : (says ≡ same_action) ↔ (t ≡ u)
  pub first_exactly : (says ≡ first_before) ↔ (HappensBefore tr t u × (t ≢ u))
  pub second_exactly : (says ≡ second_before) ↔ (HappensBefore tr u t × (t ≢ u))
  pub unordered_exactly : (says ≡ unordered) ↔ ((HappensBefore tr t u → ⊥) × (HappensBefore tr u t → ⊥))
