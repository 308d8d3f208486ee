-- "Plausible and false": "A chain found among direct predecessors only.", with a trace on which it takes another chain. `refl` computes it.
use Prim.Native.Nat.{ℕ}
use mathlib.Core.Path.{◌≡◌, refl}
use mathlib.Core.Bool.{Bool, false}
use mathlib.Core.List.{List, [], ◌∷◌}
use lib.Dec.{eqb}
use Rattle.records.specs.declared.Record.{Record}
use Rattle.records.specs.Bytes.{record_at, records_from, decode, part}
use Rattle.records.specs.Records.{past, has, begun, ended, begins}
use Rattle.trace.specs.Place.{place}
use Rattle.trace.specs.Rule.{situation, owner, numbered, well_formed, misplaced, again, early, judge, in_turn, rule}
use Rattle.trace.specs.Rule as rules
use Rattle.trace.specs.Reply.{demand, or_else, then}
use Rattle.trace.specs.Reading.{closing, walk, distance, trailer_reply, frame_reply, records_in, read_reply, Accepts}
use Rattle.records.specs.Encoding.{encode, trailer, trace_of}
use Rattle.trace.proofs.Examples.{rec}
use Rattle.records.specs.Kinds.{same_link, has_send}
use Rattle.coverage.specs.Below.{upto}
use Rattle.coverage.specs.Below as below
use Rattle.precedence.specs.Table.{ahead, some_target, sets, blocked_for}
use Rattle.precedence.specs.Table as precedence
use Rattle.order.specs.Links.{Links, within, along, some, leq}
use Rattle.order.specs.Chains.{first_from, pick, put, lasts, chain, needs}
use Rattle.order.specs.Schedule.{linked}
use Rattle.order.specs.Clocks.{table}
use Rattle.order.specs.Rank.{rank_in, rank}
use Rattle.order.specs.LinkRule.{linking_of, linking_at, puts_behind, targets_at, behind}
use Rattle.order.specs.HappensBefore.{trace_links}

-- Event 3 waits for 1 and 2, and starts 4 and 5. When 5 begins, chain 0 has 1, 3 and 4, and chain 1 has 2: 4 doesn't happen before 5, but 2 does,
-- through 3.
abbrev records : List Record
records = rec 1 1 0 ∷ rec 2 1 0 ∷ rec 1 2 0 ∷ rec 2 2 0 ∷ rec 4 3 1 ∷ rec 4 3 2 ∷ rec 1 3 0 ∷ rec 3 3 4 ∷ rec 3 3 5
    ∷ rec 2 3 0 ∷ rec 1 4 0 ∷ rec 2 4 0 ∷ rec 1 5 0 ∷ rec 2 5 0 ∷ []

pub is-accepted : Accepts (trace_of records) (record { start = 0; records = 14; events = 5; sends = false })
unfolding encode trailer trace_of record_at records_from decode past has begun ended begins place situation owner numbered well_formed misplaced again early
    in_turn rules.behind judge rule demand or_else then closing walk distance trailer_reply frame_reply part records_in read_reply
    below.some same_link has_send ahead some_target sets precedence.table blocked_for
is-accepted = refl

-- the test by which that rule finds a chain: its last member is a direct predecessor
abbrev direct : Links → ℕ → ℕ → Bool
direct l m u = some (eqb m) (l.preds u)

-- the chain of each event action, in order of begin: that rule gives the last one a chain of its own
pub direct-false : (table 5 (chain (direct (trace_links records))) ≡ 0 ∷ 1 ∷ 0 ∷ 0 ∷ 2 ∷ [])
    × (table 5 (chain (leq (trace_links records))) ≡ 0 ∷ 1 ∷ 0 ∷ 0 ∷ 1 ∷ [])
unfolding table chain lasts pick put some leq along within behind targets_at puts_behind linked linking_at linking_of rank rank_in past begins ahead
    below.some upto same_link
direct-false = (refl, refl)

-- so at width 2 it would be refused by 23 at that begin
pub direct-needs : (needs (direct (trace_links records)) 2 5 ≡ 4) × (needs (leq (trace_links records)) 2 5 ≡ 5)
unfolding needs first_from chain lasts pick put some leq along within behind targets_at puts_behind linked linking_at linking_of rank rank_in past begins ahead
    below.some upto same_link
direct-needs = (refl, refl)
