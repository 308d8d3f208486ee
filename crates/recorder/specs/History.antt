-- A recording, call after call, and what closing it gives.
-- Assumes nothing.
use Rattle.std.specs.Prelude.{ℕ, ◌+◌, ◌*◌, ◌<◌, ◌≤◌, ◌≡◌, List, [], ◌∷◌, ◌++◌, length, take, drop}
use Rattle.records.specs.Bytes.{record_bytes, trailer_bytes}
use Rattle.records.specs.declared.Record.{Record}
use Rattle.records.specs.Records.{past}
use Rattle.trace.specs.Place.{between}
use Rattle.trace.specs.Rule.{situation}
use Rattle.trace.specs.Reply.{Reply, refused, gives}
use Rattle.trace.specs.Reading.{trace_from, records_in, Accepts, Acceptable}
use Rattle.records.specs.Encoding.{trace_of}
use Rattle.recorder.specs.declared.Recorder.{Recorder}
use Rattle.recorder.specs.Recording.{done, held, open_left, step_left, close_left}

-- "if nobody else altered the bytes meanwhile": the bytes w' begin with the records that the recorder has stored in w. They may be fewer or more than those of
-- w, and other bytes may stand after the records.
abbrev pub Unaltered : Recorder → List ℕ → List ℕ → Type 0
Unaltered r w w' = take (record_bytes * held r) w' ≡ take (record_bytes * held r) w

-- "What is closed is a trace of the steps taken if nobody else altered the bytes meanwhile": what stands after an opening over the bytes b and some calls. The
-- first list has the steps taken, in order; refused calls may stand between them. The second has the bytes for the next call: what the call before left or, by
-- `lent`, any others in which the records so far are unaltered.
pub data Recording (b : List ℕ) : List Record → List ℕ → Recorder → Type 0 where
  opening : (open_left b).answer ≡ done → Recording b [] (open_left b).bytes (open_left b).recorder
  lent : {tr : List Record} {w : List ℕ} {r : Recorder} → Recording b tr w r → (w' : List ℕ) → Unaltered r w w' → Recording b tr w' r
  step : {tr : List Record} {w : List ℕ} {r : Recorder} → Recording b tr w r → (x : Record) → (step_left w r x).answer ≡ done
      → Recording b (tr ++ (x ∷ [])) (step_left w r x).bytes (step_left w r x).recorder
  refused_step : {tr : List Record} {w : List ℕ} {r : Recorder} → Recording b tr w r → (x : Record) (n p : ℕ) → (step_left w r x).answer ≡ refused n p
      → Recording b tr (step_left w r x).bytes (step_left w r x).recorder
  refused_closing : {tr : List Record} {w : List ℕ} {r : Recorder} → Recording b tr w r → (n p : ℕ) → (close_left w r).answer ≡ refused n p
      → Recording b tr (close_left w r).bytes (close_left w r).recorder

-- each call is lent what the call before left
unfoldable pub OneSpace : {b : List ℕ} {tr : List Record} {w : List ℕ} {r : Recorder} → Recording b tr w r → Type 0
OneSpace (opening e) = Unit {0}
OneSpace (lent c w' u) = ⊥
OneSpace (step c x e) = OneSpace c
OneSpace (refused_step c x n p e) = OneSpace c
OneSpace (refused_closing c n p e) = OneSpace c

-- A closed trace of the steps tr in the bytes out: the first n are the one trace of those steps, the reader accepts it and reads them, and the bytes after it
-- are those of the bytes w that were lent.
pub record ClosedTrace (w : List ℕ) (tr : List Record) (n : ℕ) (out : List ℕ) : Type 0 where
  pub acceptable : Acceptable tr
  pub long : n ≡ record_bytes * length tr + trailer_bytes
  pub trace : take n out ≡ trace_of tr
  pub reads : Accepts (take n out) (trace_from 0 tr)
  pub records : records_in (take n out) (trace_from 0 tr) ≡ tr
  pub beyond : drop n out ≡ drop n w

-- "closing gives 26, then 9, then 25 if the bytes lent to it are too few for the trailer": after the steps tr, over the bytes w. A recording is never
-- closed already.
pub record ClosingAnswers (tr : List Record) (w : List ℕ) (answer : Reply ℕ) : Type 0 where
  pub inside : (situation (past tr (length tr)) ≡ between → ⊥) → answer ≡ refused 9 (length tr)
  pub too_few : situation (past tr (length tr)) ≡ between → length w < record_bytes * length tr + trailer_bytes → answer ≡ refused 25 0
  pub closed : situation (past tr (length tr)) ≡ between → record_bytes * length tr + trailer_bytes ≤ length w
      → answer ≡ gives (record_bytes * length tr + trailer_bytes)

abbrev pub ClosingIsAnswered : Type 0
ClosingIsAnswered = (b : List ℕ) (tr : List Record) (w : List ℕ) (r : Recorder) → Recording b tr w r → ClosingAnswers tr w (close_left w r).answer

-- "What is closed is a trace of the steps taken if nobody else altered the bytes meanwhile": for every recording, over whatever unaltered bytes it is closed
abbrev pub ClosedIsTrace : Type 0
ClosedIsTrace = (b : List ℕ) (tr : List Record) (w : List ℕ) (r : Recorder) → Recording b tr w r
    → (n : ℕ) → (close_left w r).answer ≡ gives n → ClosedTrace w tr n (close_left w r).bytes

-- "Except where stated, lent memory is unchanged": over one space all along, the bytes after the closed trace are those of the opening.
abbrev pub BeyondIsUnchanged : Type 0
BeyondIsUnchanged = (b : List ℕ) (tr : List Record) (w : List ℕ) (r : Recorder) (c : Recording b tr w r) → OneSpace c
    → (n : ℕ) → (close_left w r).answer ≡ gives n → drop n (close_left w r).bytes ≡ drop n b
