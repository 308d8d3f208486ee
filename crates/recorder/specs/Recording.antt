-- What opening, a step and closing answer and leave, for every state of the recorder and every content of the lent bytes.
-- Assumes nothing.
use Rattle.std.specs.Prelude.{ℕ, zero, suc, min, ◌+◌, ◌*◌, Bool, true, false, cond, ◌&&◌, List, [], ◌∷◌, Result, leb, ltb, eqb, length}
use Rattle.records.specs.Bytes.{record_bytes, trailer_bytes}
use Rattle.records.specs.declared.Record.{Record}
use Rattle.records.specs.Records.{past, begun, ended, begins}
use Rattle.records.specs.Bytes.{decode, part}
use Rattle.links.specs.Begin.{begin_blocked}
use Rattle.trace.specs.Place.{between, place}
use Rattle.trace.specs.Rule.{judge}
use Rattle.trace.specs.declared.Refusal.{Refusal}
use Rattle.trace.specs.Reply.{Reply, refused, gives}
use Rattle.trace.specs.Paper.{paper}
use Rattle.records.specs.Encoding.{encode, trailer, stored}
use Rattle.records.specs.declared.EventId.{EventId}
use Rattle.recorder.specs.declared.Recorder.{Recorder}
use Rattle.recorder.specs.declared.After.{After}

-- opening and a step give no more than that they are done; closing gives the trace's length
abbrev pub Done : Type 0
Done = Unit {0}

abbrev pub done : Reply Done
done = gives tt

abbrev pub opening_paper : Result Done Refusal → Reply Done
opening_paper = paper

abbrev pub stepped_paper : Result Done Refusal → Reply Done
stepped_paper = paper

abbrev pub closing_paper : Result ℕ Refusal → Reply ℕ
closing_paper = paper

-- What a call leaves: its answer, the recorder and the lent bytes.
pub record Left (A : Type 0) : Type 0 where
  pub answer : Reply A
  pub recorder : Recorder
  pub bytes : List ℕ

abbrev pub left : {A : Type 0} → Reply A → Recorder → List ℕ → Left A
left a r b = record { answer = a; recorder = r; bytes = b }

abbrev pub of_opening : After Done → List ℕ → Left Done
of_opening o b = left (opening_paper o.answer) o.recorder b

abbrev pub of_step : After Done → List ℕ → Left Done
of_step n b = left (stepped_paper n.answer) n.recorder b

abbrev pub of_closing : After ℕ → List ℕ → Left ℕ
of_closing e b = left (closing_paper e.answer) e.recorder b

-- the recorder that its four numbers say
abbrev pub of_numbers : ℕ → ℕ → EventId → Bool → Recorder
of_numbers count situation owner closed = record { count = count; situation = situation; owner = owner; closed = closed }

-- "A refused step leaves recorder and bytes unchanged": the refusal with this number and place, or next where the number is 0.
unfoldable pub pass : {A : Type 0} → List ℕ → Recorder → ℕ → ℕ → Left A → Left A
pass b r zero p next = next
pass b r (suc n) p next = record { answer = refused (suc n) p; recorder = r; bytes = b }

-- How many records are stored: at most 4,096, whatever the state says.
unfoldable pub held : Recorder → ℕ
held r = min r.count 4096

-- a record of that kind
abbrev pub of_kind : ℕ → Record → Bool
of_kind kind x = eqb x.kind kind

-- "A trace is written from the first byte of the space lent": its first n records, the latest first; where the bytes hold fewer, those.
unfoldable pub before : List ℕ → ℕ → List Record
before b n = past (decode (part b 0 n)) (length (decode (part b 0 n)))

-- 4 to 8 and 31, by the reader's rules: the refusal of record x after the first n records of the bytes, or 0. 31 is computed, so that it is told over altered
-- bytes too.
unfoldable pub judged : List ℕ → ℕ → Recorder → Record → ℕ
judged b n r x =
    judge r.situation r.owner.0 x (begun x.first (before b n)) (begun x.second (before b n)) (ended x.second (before b n))
    (begin_blocked (decode (part b 0 n)) x.first)

-- "26: recorder only, closed already."
unfoldable pub closed_already : Recorder → ℕ
closed_already r = cond r.closed 26 0

-- "25: recorder only, 4,096 records stored, or no space left for the record and a trailer"
unfoldable pub space : List ℕ → ℕ → Bool
space b n = ltb n 4096 && leb (record_bytes * n + record_bytes + trailer_bytes) (length b)

unfoldable pub full : List ℕ → ℕ → ℕ
full b n = cond (space b n) 0 25

-- "9: the trace stops inside an event action or after a join."
unfoldable pub stops_inside : Recorder → ℕ
stops_inside r = cond (eqb r.situation between) 0 9

-- "25 if the bytes lent to it are too few for the trailer"
unfoldable pub no_trailer : List ℕ → ℕ → ℕ
no_trailer b n = cond (leb (record_bytes * n + trailer_bytes) (length b)) 0 25

-- "opening over fewer than 8 bytes also"; "a refused opening gives a closed recorder"
unfoldable pub open_left : List ℕ → Left Done
open_left b =
    cond (leb trailer_bytes (length b))
    (record { answer = done; recorder = record { count = 0; situation = between; owner = record { 0 = 0 }; closed = false }; bytes = b })
    (record { answer = refused 25 0; recorder = record { count = 0; situation = between; owner = record { 0 = 0 }; closed = true }; bytes = b })

-- "The recorder gives 26, then 4 to 8, then 25", with 31 "following 7 on a begin"; the place of 4 to 8 and 31 is the number that the record would have had.
unfoldable pub step_left : List ℕ → Recorder → Record → Left Done
step_left b r x =
    pass b r (closed_already r) 0
    (pass b r (judged b (held r) r x) (held r + 1)
    (pass b r (full b (held r)) 0
    (record {
      answer = done;
      recorder = record { count = held r + 1; situation = place r.situation x.kind; owner = record { 0 = x.first }; closed = false };
      bytes = stored b (record_bytes * held r) (encode (x ∷ []));
    })))

-- "closing gives 26, then 9, then 25 if the bytes lent to it are too few for the trailer"; "its length is given". The place of 9 is the last record.
unfoldable pub close_left : List ℕ → Recorder → Left ℕ
close_left b r =
    pass b r (closed_already r) 0
    (pass b r (stops_inside r) (held r)
    (pass b r (no_trailer b (held r)) 0
    (record {
      answer = gives (record_bytes * held r + trailer_bytes);
      recorder = record { count = r.count; situation = r.situation; owner = r.owner; closed = true };
      bytes = stored b (record_bytes * held r) (trailer (record_bytes * held r) (begins (before b (held r))));
    })))
