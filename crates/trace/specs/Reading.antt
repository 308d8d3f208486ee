-- The reader's whole reply. "Order: 13, 1, 2, 3, then each record with 4 to 8 in turn, then 9, 10, 11, 12."; 31 stands "following 7 on a begin".
-- Assumes nothing.
use Rattle.std.specs.Prelude.{ℕ, ◌+◌, ◌*◌, ◌-◌, ◌/◌, ◌%◌, ◌<◌, ◌≤◌, ◌≡◌, false, ◌&&◌, List, [], ◌∷◌, leb, eqb, get_or, length}
use Rattle.records.specs.declared.Record.{Record}
use Rattle.records.specs.declared.Trace.{Trace}
use Rattle.records.specs.Records.{at, past, begins}
use Rattle.records.specs.Kinds.{has_send}
use Rattle.slices.specs.Slices.{two_bytes}
use Rattle.records.specs.Bytes.{record_bytes, trailer_bytes, decode, part}
use Rattle.trace.specs.Place.{between}
use Rattle.trace.specs.Rule.{situation, rule}
use Rattle.trace.specs.Reply.{Reply, gives, demand, or_else, then, unless}

-- The trace stops after the records before; the trailer names m begins. "9: the trace stops inside an event action or after a join. 10: begins differ from
-- the trailer's number."
unfoldable pub closing : ℕ → ℕ → List Record → Reply Trace
closing start m before =
    demand (eqb (situation before) between) 9 (length before)
    (demand (eqb (begins before) m) 10 0 (gives (record { start = start; records = length before; events = begins before; sends = has_send before })))

-- each record in turn, after the records before, the latest first
unfoldable pub walk : ℕ → ℕ → List Record → List Record → Reply Trace
walk start m before [] = closing start m before
walk start m before (r ∷ rest) = or_else (rule before r) (length before + 1) (walk start m (r ∷ before) rest)

-- "distance in bytes from the trailer's start to record 1 (4 bytes)"
unfoldable pub distance : List ℕ → ℕ → ℕ
distance b t = two_bytes b t + 65536 * two_bytes b (t + 2)

-- The trailer, which starts at t and names the distance d: "1: fewer than 8 bytes, or last byte not hex A7. 2: edition not 1. 3: distance not a multiple of 5,
-- above 20,480, or more than the bytes before the trailer." Its reply is where record 1 starts, how many records and the number of begins it names;
-- of sends it says nothing.
unfoldable pub trailer_reply : List ℕ → ℕ → ℕ → Reply Trace
trailer_reply b t d =
    demand (eqb (get_or b (t + 7) 0) 167) 1 0
    (demand (eqb (get_or b (t + 6) 0) 1) 2 0
    (demand (eqb (d % record_bytes) 0 && leb d 20480 && leb d t) 3 0
    (gives (record { start = t - d; records = d / record_bytes; events = two_bytes b (t + 4); sends = false }))))

-- "The trace closes with an 8-byte trailer that points back"
unfoldable pub frame_reply : List ℕ → Reply Trace
frame_reply b = demand (leb trailer_bytes (length b)) 1 0 (trailer_reply b (length b - trailer_bytes) (distance b (length b - trailer_bytes)))

-- where record 1 starts, how many records and how many begins there are and whether there is a send, of the records tr
abbrev pub trace_from : ℕ → List Record → Trace
trace_from start tr = record { start = start; records = length tr; events = begins (past tr (length tr)); sends = has_send (past tr (length tr)) }

-- the records of a trace
unfoldable pub records_in : List ℕ → Trace → List Record
records_in b t = decode (part b t.start t.records)

unfoldable pub read_reply : List ℕ → Reply Trace
read_reply b = then (frame_reply b) (λ t. walk t.start t.events [] (records_in b t))

-- the records that were read, none where the trace is refused
unfoldable pub records_read : List ℕ → List Record
records_read b = unless (read_reply b) [] (λ t. records_in b t)

-- "A trace is accepted when no refusal of the trace itself applies, so far 1 to 10" and 31
abbrev pub Accepts : List ℕ → Trace → Type 0
Accepts b t = gives t ≡ read_reply b

-- A sequence of records that a trace can hold: "At most 4,096 records", each passes its rule after those before it, and the last leaves the trace between event
-- actions.
pub record Acceptable (tr : List Record) : Type 0 where
  pub few : length tr ≤ 4096
  pub passes : (i : ℕ) → i < length tr → rule (past tr i) (at tr i) ≡ 0
  pub closed : situation (past tr (length tr)) ≡ between
