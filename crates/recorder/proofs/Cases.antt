-- A recording whose closing is lent too few bytes, and then other bytes again.
-- Assumes nothing.
use Prim.Native.Nat.{ℕ}
use mathlib.Core.Path.{◌≡◌, refl}
use mathlib.Core.List.{List, [], ◌∷◌, ◌++◌}
use lib.ListN.{take, replicate}
use Rattle.records.specs.Bytes.{record_at, records_from, decode, part}
use Rattle.records.specs.Records.{past, has, begun, ended, begins}
use Rattle.links.specs.Begin.{send_to, last_send, begin_blocked}
use Rattle.trace.specs.Place.{place}
use Rattle.trace.specs.Rule.{numbered, well_formed, misplaced, again, early, judge}
use Rattle.trace.specs.Reply.{refused, gives}
use Rattle.records.specs.Encoding.{encode, trailer, trace_of, stored}
use Rattle.trace.proofs.Examples.{rec}
use Rattle.recorder.specs.Recording.{Done, Left, pass, held, before, judged, closed_already, space, full, stops_inside, no_trailer}
use Rattle.recorder.specs.Recording.{open_left, step_left, close_left}
use Rattle.recorder.specs.History.{Recording, opening, lent, step, refused_closing}

-- 18 bytes, just enough for two records and a trailer
abbrev bytes : List ℕ
bytes = replicate 18 7

abbrev begin-1 : Left Done
begin-1 = step_left (open_left bytes).bytes (open_left bytes).recorder (rec 1 1 0)

abbrev end-1 : Left Done
end-1 = step_left begin-1.bytes begin-1.recorder (rec 2 1 0)

-- closing is lent the first 17 of them
abbrev few : List ℕ
few = take 17 end-1.bytes

-- and then 21 bytes, of which 11 stand after the records
abbrev many : List ℕ
many = take 10 few ++ replicate 11 200

-- "25 if the bytes lent to it are too few for the trailer": it is refused, the recording goes on, and the second closing gives the trace.
pub record TooFew : Type 0 where
  pub enough : Recording bytes (rec 1 1 0 ∷ rec 2 1 0 ∷ []) end-1.bytes end-1.recorder
  pub too_few : (close_left few end-1.recorder).answer ≡ refused 25 0
  pub goes_on : Recording bytes (rec 1 1 0 ∷ rec 2 1 0 ∷ []) many end-1.recorder
  pub closed : (close_left many end-1.recorder).answer ≡ gives 18
  pub bytes_are : (close_left many end-1.recorder).bytes ≡ trace_of (rec 1 1 0 ∷ rec 2 1 0 ∷ []) ++ (200 ∷ 200 ∷ 200 ∷ [])

pub hold : TooFew
unfolding open_left step_left close_left pass held closed_already judged before space full stops_inside no_trailer stored part decode
    records_from record_at past has begun ended begins place numbered well_formed misplaced again early judge send_to last_send begin_blocked encode
    trailer trace_of
hold =
    let c = step (step (opening refl) (rec 1 1 0) refl) (rec 2 1 0) refl in
    record { enough = c; too_few = refl; goes_on = lent (refused_closing (lent c few refl) 25 0 refl) many refl; closed = refl; bytes_are = refl }
