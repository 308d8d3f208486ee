-- "The recorder and the reader undo each other: each acceptable sequence of records has just one trace, counted from record 1."
-- Assumes nothing.
use Rattle.std.specs.Prelude.{ℕ, ◌+◌, ◌*◌, ◌≤◌, ◌≡◌, List, length, take, drop}
use Rattle.records.specs.Bytes.{record_bytes, trailer_bytes}
use Rattle.records.specs.declared.Record.{Record}
use Rattle.records.specs.declared.Trace.{Trace}
use Rattle.trace.specs.Reply.{gives}
use Rattle.trace.specs.Reading.{trace_from, records_in, Accepts, Acceptable}
use Rattle.records.specs.Encoding.{Bytes, trace_of}
use Rattle.recorder.specs.declared.Recorder.{Recorder}
use Rattle.recorder.specs.Recording.{close_left}
use Rattle.recorder.specs.History.{Recording, OneSpace}

-- "A recorder that writes a trace step by step"; "A trace is written from the first byte of the space lent, and its length is given": the records tr are
-- recorded one by one over the bytes b and then closed, which gives the bytes out and leaves those after them.
pub record RecordsAs (b : List ℕ) (tr : List Record) (out : List ℕ) : Type 0 where
  pub bytes : List ℕ
  pub recorder : Recorder
  pub recording : Recording b tr bytes recorder
  pub one_space : OneSpace recording
  pub closed : (close_left bytes recorder).answer ≡ gives (length out)
  pub out-is : take (length out) (close_left bytes recorder).bytes ≡ out
  pub beyond : drop (length out) (close_left bytes recorder).bytes ≡ drop (length out) b

-- the trace that the records tr are recorded as reads back as tr
pub record ReadBack (b : List ℕ) (tr : List Record) : Type 0 where
  pub recorded : RecordsAs b tr (trace_of tr)
  pub accepts : Accepts (trace_of tr) (trace_from 0 tr)
  pub reads : records_in (trace_of tr) (trace_from 0 tr) ≡ tr

-- Recording any acceptable sequence of records step by step, where there is space, and then reading gives the sequence back.
abbrev pub RecordedThenRead : Type 0
RecordedThenRead = (tr : List Record) → Acceptable tr → (b : List ℕ) → record_bytes * length tr + trailer_bytes ≤ length b → ReadBack b tr

-- Reading any accepted bytes and then recording what was read, where there is space, gives those bytes from record 1 on, trailer included.
abbrev pub ReadThenRecorded : Type 0
ReadThenRecorded = (b : List ℕ) → Bytes b → (t : Trace) → Accepts b t
    → (space : List ℕ) → record_bytes * t.records + trailer_bytes ≤ length space → RecordsAs space (records_in b t) (drop t.start b)
