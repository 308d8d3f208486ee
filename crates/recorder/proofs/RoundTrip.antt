-- Recorder and reader undo each other.
-- Assumes nothing.
use Prim.Native.Nat.{ℕ, zero, suc, ◌+◌, ◌*◌, ◌<◌, ◌≤◌}
use mathlib.Core.Path.{◌≡◌, sym, ap, ◌∙◌}
use mathlib.Core.Bool.{true}
use mathlib.Core.List.{List, []}
use native.Mathlib.Omega.{arith}
use lib.ListN.{length, take, drop, take-append-drop, length-append}
use lib.Seq.{take-length, take-suc, length-take-le}
use Rattle.records.specs.declared.Record.{Record}
use Rattle.records.specs.Records.{no_record, at, past, begins}
use Rattle.trace.specs.Rule.{rule}
use Rattle.trace.specs.Reading.{Acceptable}
use Rattle.records.specs.Encoding.{encode, trailer, trace_of}
use Rattle.trace.proofs.Accepted.{accepts}
use Rattle.records.proofs.Encoded.{encode-length}
use Rattle.trace.proofs.Encoded.{records-encoded, read-encoded, one-trace}
use Rattle.recorder.specs.declared.Recorder.{Recorder}
use Rattle.recorder.specs.Recording.{Done, done, Left, space, open_left, step_left}
use Rattle.recorder.specs.History.{Recording, opening, step, OneSpace}
use Rattle.recorder.specs.RoundTrip.{RecordsAs, RecordedThenRead, ReadThenRecorded}
use Rattle.recorder.proofs.Left.{pass_on, full-not, has-space}
use Rattle.recorder.proofs.Appended.{past-front}
use Rattle.recorder.proofs.Holds.{Holds, holds, step_is, open_is}
use Rattle.recorder.proofs.Beyond.{untouched, closed-beyond}
use Rattle.recorder.proofs.Recorded.{trailer-length, closed-trace, closing-answers}

-- a record that passes is taken where there is space
takes : {tr : List Record} {w : List ℕ} {r : Recorder} → Holds tr w r → (x : Record) → rule (past tr (length tr)) x ≡ 0 → space w (length tr) ≡ true
    → (step_left w r x).answer ≡ done
takes {tr} {w} {r} h x e s = ap (λ (l : Left Done). l.answer) (step_is h x ∙ pass_on w r _ _ _ e ∙ pass_on w r _ _ _ (full-not w (length tr) s))

trace-length : (tr : List Record) → length (trace_of tr) ≡ 5 * length tr + 8
unfolding trace_of
trace-length tr =
    let m = begins (past tr (length tr)) in
    length-append (encode tr) (trailer (5 * length tr) m) ∙ rw (encode-length tr, trailer-length (5 * length tr) m)

-- step by step
module _ {tr : List Record} (a : Acceptable tr) (b : List ℕ) (room : 5 * length tr + 8 ≤ length b) where
  record Reached (front : List Record) : Type 0 where
    bytes : List ℕ
    recorder : Recorder
    recording : Recording b front bytes recorder
    one_space : OneSpace recording

  onward : (i : ℕ) → i < length tr → Reached (take i tr) → Reached (take (suc i) tr)
  onward i l c =
      let w = c.bytes in
      let r = c.recorder in
      let x = at tr i in
      let h = holds c.recording in
      let n : length (take i tr) ≡ i = length-take-le i tr (omega arith) in
      let p : past (take i tr) i ≡ past tr i = sym (past-front (take i tr) (drop i tr) i (omega arith)) ∙ rw (take-append-drop i tr) in
      let e : rule (past (take i tr) (length (take i tr))) x ≡ 0 = rw (n, p) (a.passes i l) in
      let lw = (untouched c.recording c.one_space).long in
      let few = a.few in
      let s : space w (length (take i tr)) ≡ true = has-space w (length (take i tr)) (omega arith) (omega arith) in
      rw (take-suc tr i no_record l) (record {
        bytes = (step_left w r x).bytes;
        recorder = (step_left w r x).recorder;
        recording = step c.recording x (takes h x e s);
        one_space = unfold OneSpace in c.one_space;
      })

  reached : (i : ℕ) → i ≤ length tr → Reached (take i tr)
  reached zero l = record {
    bytes = (open_left b).bytes;
    recorder = (open_left b).recorder;
    recording = opening (ap (λ (o : Left Done). o.answer) (open_is b (omega arith)));
    one_space = unfold OneSpace in tt;
  }
  reached (suc i) l = onward i l (reached i (omega arith))

  pub recordable : RecordsAs b tr (trace_of tr)
  recordable =
      let c = rw (take-length tr) at (reached (length tr) (omega arith)) in
      let k = (untouched c.recording c.one_space).long in
      let e = (closing-answers b tr c.bytes c.recorder c.recording).closed a.closed (omega arith) in
      let z = closed-trace b tr c.bytes c.recorder c.recording (5 * length tr + 8) e in
      let l = trace-length tr in
      record {
        bytes = c.bytes;
        recorder = c.recorder;
        recording = c.recording;
        one_space = c.one_space;
        closed = rw l e;
        out-is = rw l z.trace;
        beyond = rw l (closed-beyond b tr c.bytes c.recorder c.recording c.one_space (5 * length tr + 8) e);
      }

pub recorded-then-read : RecordedThenRead
recorded-then-read tr a b room = record { recorded = recordable a b room; accepts = read-encoded a []; reads = records-encoded a [] }

pub read-then-recorded : ReadThenRecorded
read-then-recorded b bytes t e space room =
    let a = accepts b t e in
    let l = a.counts in
    rw (one-trace b t bytes e) (recordable a.acceptable space (omega arith))
