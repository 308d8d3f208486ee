-- Refusals 4 to 8 and 31: the rules for one record, given the records before it, the latest first.
-- Assumes nothing.
use Rattle.std.specs.Prelude.{ℕ, Bool, cond, not, ◌&&◌, ◌||◌, List, [], ◌∷◌, ◌++◌, leb, ltb, eqb, length}
use Rattle.records.specs.declared.Record.{Record}
use Rattle.records.specs.Records.{is_begin, is_join, begun, ended}
use Rattle.records.specs.Kinds.{starts}
use Rattle.precedence.specs.Table.{blocked_for}
use Rattle.trace.specs.Place.{between, unknown_kind, out_of_place, place}

-- the situation after the records
unfoldable pub situation : List Record → ℕ
situation [] = between
situation (r ∷ before) = place (situation before) r.kind

-- the open event or, after a join, the joining one
unfoldable pub owner : List Record → ℕ
owner [] = 0
owner (r ∷ before) = r.first

-- "Event numbers and cell numbers run from 1 to 1,024."
unfoldable pub numbered : ℕ → Bool
numbered x = leb 1 x && leb x 1024

-- "5: event or cell not 1 to 1,024, or second of a begin or end not 0."
unfoldable pub well_formed : Record → Bool
well_formed r = numbered r.first && cond (ltb r.kind 3) (eqb r.second 0) (numbered r.second)

-- "6: out of place by the table; or first is not the open event; or, after a join, first is not the joining event."
unfoldable pub misplaced : ℕ → ℕ → Record → Bool
misplaced s e r = eqb (place s r.kind) out_of_place || (not (eqb s between) && not (eqb r.first e))

-- "7: begin or join whose first has begun already; fork whose second has begun already, itself included." Sends are "placed like a fork, with the same
-- fields and checks".
unfoldable pub again : Record → Bool → Bool → Bool
again r first_begun second_begun = cond (starts r) second_begun ((is_begin r || is_join r) && first_begun)

-- "8: join whose second has not ended."
unfoldable pub early : Record → Bool → Bool
early r second_ended = is_join r && not second_ended

-- The refusal of record r in situation s with the open or joining event e, or 0 where it passes; the four facts are that its first has begun, that
-- its second has begun, that its second has ended, and that a link puts its first behind another target not yet begun. "each record with 4 to 8 in
-- turn"; "4: kind not 1 to 6.", and of sends "Document 01's refusal 4 leaves these kinds out from then on. Refusal 31, following 7 on a begin and placed
-- there, is for an event that a link puts behind another target not yet begun."
unfoldable pub judge : ℕ → ℕ → Record → Bool → Bool → Bool → Bool → ℕ
judge s e r first_begun second_begun second_ended behind =
    cond (eqb (place s r.kind) unknown_kind) 4
    (cond (not (well_formed r)) 5
    (cond (misplaced s e r) 6
    (cond (again r first_begun second_begun) 7
    (cond (is_begin r && behind) 31
    (cond (early r second_ended) 8 0)))))

-- the records before, in trace order
unfoldable pub in_turn : List Record → List Record
in_turn [] = []
in_turn (r ∷ before) = in_turn before ++ (r ∷ [])

-- a link puts event e, were it to begin now, behind another target not yet begun
unfoldable pub behind : ℕ → List Record → Bool
behind e before = blocked_for (in_turn before) (length before) e

-- the refusal of record r after the records before it, or 0
unfoldable pub rule : List Record → Record → ℕ
rule before r =
    judge (situation before) (owner before) r (begun r.first before) (begun r.second before) (ended r.second before) (behind r.first before)
