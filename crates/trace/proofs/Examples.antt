-- Trace T and its variants; and one refusal of each number, with a trace after bytes of the job file, proved of the reader's definition.
-- Assumes nothing.
use Prim.Native.Nat.{ℕ}
use mathlib.Core.Path.{◌≡◌, refl}
use mathlib.Core.Bool.{true, false}
use mathlib.Core.List.{List, [], ◌∷◌, ◌++◌, map}
use Rattle.records.specs.declared.Record.{Record}
use Rattle.records.specs.declared.Trace.{Trace}
use Rattle.records.specs.Bytes.{record_at, records_from, decode, part}
use Rattle.records.specs.Records.{past, has, begun, ended, begins}
use Rattle.records.specs.Kinds.{same_link, has_send}
use Rattle.coverage.specs.Below.{some}
use Rattle.precedence.specs.Table.{ahead, some_target, sets, table, blocked_for}
use Rattle.trace.specs.Place.{place}
use Rattle.trace.specs.Rule.{situation, owner, numbered, well_formed, misplaced, again, early, judge, in_turn, behind, rule}
use Rattle.trace.specs.Reply.{Reply, refused, gives, demand, or_else, then}
use Rattle.trace.specs.Reading.{closing, walk, distance, trailer_reply, frame_reply, records_in, read_reply}
use Rattle.records.specs.Encoding.{encode, trailer}

-- a record, by "Kind, first, second"
abbrev pub rec : ℕ → ℕ → ℕ → Record
rec k x y = record { kind = k; first = x; second = y }

-- records 1 to 6, which T and its variants share
abbrev opening : List Record → List Record
opening rest = rec 1 1 0 ∷ rec 3 1 2 ∷ rec 3 1 3 ∷ rec 2 1 0 ∷ rec 1 2 0 ∷ rec 6 2 1 ∷ rest

-- "1: begin 1; 2: fork 1 2; 3: fork 1 3; 4: end 1; 5: begin 2; 6: write 2 1; 7: write 2 2; 8: end 2; 9: begin 3; 10: read 3 2; 11: read 3 1; 12: end 3."
abbrev pub records_t : List Record
records_t = opening (rec 6 2 2 ∷ rec 2 2 0 ∷ rec 1 3 0 ∷ rec 5 3 2 ∷ rec 5 3 1 ∷ rec 2 3 0 ∷ [])

-- "T with the cells of 10 and 11 exchanged"
abbrev pub exchanged : List Record
exchanged = opening (rec 6 2 2 ∷ rec 2 2 0 ∷ rec 1 3 0 ∷ rec 5 3 1 ∷ rec 5 3 2 ∷ rec 2 3 0 ∷ [])

-- "T with fork 2 3 after record 7"
abbrev pub forked : List Record
forked = opening (rec 6 2 2 ∷ rec 3 2 3 ∷ rec 2 2 0 ∷ rec 1 3 0 ∷ rec 5 3 2 ∷ rec 5 3 1 ∷ rec 2 3 0 ∷ [])

-- "T with 7 writing and 10 reading cell 1"
abbrev pub one_cell : List Record
one_cell = opening (rec 6 2 1 ∷ rec 2 2 0 ∷ rec 1 3 0 ∷ rec 5 3 1 ∷ rec 5 3 1 ∷ rec 2 3 0 ∷ [])

-- "Trailer in hex: 3C 00 00 00 03 00 01 A7."
abbrev pub trailer_t : List ℕ
trailer_t = 60 ∷ 0 ∷ 0 ∷ 0 ∷ 3 ∷ 0 ∷ 1 ∷ 167 ∷ []

-- bytes, and the reply that document 01 gives for them
pub record Case : Type 0 where
  pub bytes : List ℕ
  pub reply : Reply Trace

abbrev of : List ℕ → Reply Trace → Case
of b r = record { bytes = b; reply = r }

-- these records, with the trailer that names distance d and m begins
abbrev reads : List Record → ℕ → ℕ → Reply Trace → Case
reads tr d m r = of (encode tr ++ trailer d m) r

-- 1 sends to 2 and to 3, by those kinds; then the rest
abbrev sends_to : ℕ → ℕ → List Record → List Record
sends_to k l rest = rec 1 1 0 ∷ rec k 1 2 ∷ rec l 1 3 ∷ rec 2 1 0 ∷ rest

abbrev pub cases : List Case
cases =
    of (7 ∷ 7 ∷ encode records_t ++ trailer_t) (gives (record { start = 2; records = 12; events = 3; sends = false }))
    ∷ of (0 ∷ 0 ∷ 0 ∷ 0 ∷ 0 ∷ 0 ∷ 1 ∷ 168 ∷ []) (refused 1 0)
    ∷ of (0 ∷ 0 ∷ 0 ∷ 0 ∷ 0 ∷ 0 ∷ 2 ∷ 167 ∷ []) (refused 2 0)
    ∷ reads [] 5 0 (refused 3 0)
    ∷ reads (rec 1 1 0 ∷ rec 7 1 1 ∷ []) 10 1 (refused 4 2)
    ∷ reads (rec 1 1 0 ∷ rec 5 1 1025 ∷ []) 10 1 (refused 5 2)
    ∷ reads (rec 2 1 0 ∷ []) 5 0 (refused 6 1)
    ∷ reads (rec 1 1 0 ∷ rec 1 1 0 ∷ []) 10 2 (refused 6 2)
    ∷ reads (rec 1 1 0 ∷ rec 3 1 1 ∷ []) 10 1 (refused 7 2)
    ∷ reads (rec 4 1 2 ∷ []) 5 0 (refused 8 1)
    ∷ reads (rec 1 1 0 ∷ []) 5 1 (refused 9 1)
    ∷ reads [] 0 1 (refused 10 0)
    -- a send, between event actions and inside one; to an event that has begun
    ∷ reads (rec 16 1 2 ∷ []) 5 0 (refused 6 1)
    ∷ reads (rec 1 1 0 ∷ rec 19 1 1 ∷ []) 10 1 (refused 7 2)
    ∷ reads (rec 1 1 0 ∷ rec 15 1 2 ∷ []) 10 1 (refused 4 2)
    ∷ reads (rec 1 1 0 ∷ rec 20 1 2 ∷ []) 10 1 (refused 4 2)
    -- 1 sends to 2, then to 3 on the same link: in that order both may begin, and 3 not before 2
    ∷ reads (sends_to 16 16 (rec 1 2 0 ∷ rec 2 2 0 ∷ rec 1 3 0 ∷ rec 2 3 0 ∷ [])) 40 3 (gives (record { start = 0; records = 8; events = 3; sends = true }))
    ∷ reads (sends_to 16 16 (rec 1 3 0 ∷ [])) 25 2 (refused 31 5)
    -- on another link it may; and 31 stands before a later refusal
    ∷ reads (sends_to 16 17 (rec 1 3 0 ∷ rec 2 3 0 ∷ [])) 30 2 (gives (record { start = 0; records = 6; events = 2; sends = true }))
    ∷ reads (sends_to 16 16 (rec 1 3 0 ∷ rec 7 3 1 ∷ [])) 30 2 (refused 31 5)
    -- 1 sends to 2, 3 and 2: neither may begin
    ∷ reads (rec 1 1 0 ∷ rec 16 1 2 ∷ rec 16 1 3 ∷ rec 16 1 2 ∷ rec 2 1 0 ∷ rec 1 2 0 ∷ []) 30 2 (refused 31 6)
    ∷ reads (rec 1 1 0 ∷ rec 16 1 2 ∷ rec 16 1 3 ∷ rec 16 1 2 ∷ rec 2 1 0 ∷ rec 1 3 0 ∷ []) 30 2 (refused 31 6)
    ∷ []

-- every case gets the reply that it expects
pub hold : map (λ (c : Case). read_reply c.bytes) cases ≡ map (λ (c : Case). c.reply) cases
unfolding encode trailer record_at records_from decode past has begun ended begins place situation owner numbered well_formed misplaced again early judge in_turn behind rule
    some same_link has_send ahead some_target sets table blocked_for
    demand or_else then closing walk distance trailer_reply frame_reply part records_in read_reply
hold = refl
