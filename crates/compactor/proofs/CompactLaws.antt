-- How the compactor ends. Assumes nothing.
use Prim.Native.Nat.{ℕ, ◌+◌, ◌*◌, ◌-◌, ◌≤◌}
use mathlib.Core.Path.{◌≡◌, refl, sym, ap, ◌∙◌}
use mathlib.Core.Bool.{Bool, true, false}
use mathlib.Core.List.{List, ◌++◌}
use native.Mathlib.Omega.{arith}
use borrow.Author.Tests.{le-leb, leb-true}
use lib.Dec.{leb}
use lib.ListN.{length, drop, length-append, length-drop}
use Rattle.records.specs.declared.Record.{Record}
use Rattle.records.specs.declared.Trace.{Trace}
use Rattle.records.specs.Records.{past, begins}
use Rattle.records.specs.Encoding.{encode, trailer, trace_of, stored, stored_within}
use Rattle.records.proofs.Encoded.{encode-length}
use Rattle.trace.specs.Reply.{refused, gives, demand, then, unless}
use Rattle.trace.specs.Reading.{records_in, read_reply, Accepts, Acceptable}
use Rattle.trace.proofs.ReplyLaws.{then-given}
use Rattle.trace.proofs.Accepted.{accepts, records-read}
use Rattle.order.specs.Fill.{events_in}
use Rattle.coverage.proofs.Indexed.{size-most, sizes-together}
use Rattle.std.proofs.Common.{Result, Ok}
use Rattle.trace.specs.declared.Refusal.{Refusal}
use Rattle.compactor.specs.declared.Slim.{Slim}
use Rattle.compactor.specs.SlimTrace.{dropped, kept, slim_of, dropped_in}
use Rattle.compactor.specs.Compact.{compact_paper, slim_bytes, compact_trace, compact_reply, out_after, Compacts}
use Rattle.compactor.specs.loops.Keeping.{Passes, Fits, WritesSlim}
use Rattle.compactor.proofs.SlimLaws.{slim-length, slim-events}
use Rattle.compactor.proofs.KeepLaws.{stored-after}

-- a trace has five bytes for each record, and eight more
pub trace-length : (tr : List Record) → length (trace_of tr) ≡ 5 * length tr + 8
unfolding trace_of trailer
trace-length tr = length-append (encode tr) _ ∙ ap (λ (n : ℕ). n + 8) (encode-length tr)

-- a slim trace has no more records than its trace, and so no more than a trace can have
pub slim-most : {tr : List Record} → Acceptable tr → length (slim_of tr) ≤ length tr
slim-most {tr} acc = let m = size-most (kept tr) (length tr) in omega (arith, slim-length acc)

pub few-slim : {tr : List Record} → Acceptable tr → length (slim_of tr) ≤ 4096
few-slim acc = omega (arith, slim-most acc, acc.few)

-- a space that holds the whole trace holds the slim one
pub fits_whole : {tr : List Record} → Acceptable tr → {n : ℕ} {out : List ℕ} → n ≡ length tr → 5 * n + 8 ≤ length out → Fits tr out out true
fits_whole {tr} acc {out = out} e l =
    record { tells = sym (le-leb (length (slim_bytes tr)) (length out) (omega (arith, trace-length (slim_of tr), slim-most acc))); out-is = refl }

-- what is kept was counted
pub fits-counted : {tr : List Record} {out out' : List ℕ} {k : ℕ} → Passes false tr out out' k → Fits tr out out' (leb (5 * k + 8) (length out'))
fits-counted {tr} {out} {out'} {k} p =
    record { tells = rw (p.out-is, p.count, trace-length (slim_of tr)); out-is = p.out-is }

-- the kept records, then the trailer
pub writes-slim : {tr : List Record} → Acceptable tr → {events k : ℕ} {out out' out'' : List ℕ} → events ≡ events_in tr → length (slim_bytes tr) ≤ length out
    → Passes true tr out out' k → out'' ≡ stored_within out' (5 * k) (trailer (5 * k) events) → WritesSlim tr out out'' k
unfolding stored_within trace_of events_in trailer
writes-slim {tr} acc {events} {k} {out} {out'} {out''} e room p w =
    let n = p.count in
    let t = trace-length (slim_of tr) in
    let five : length (encode (slim_of tr)) ≡ 5 * k = encode-length (slim_of tr) ∙ ap (λ (m : ℕ). 5 * m) (sym n) in
    let f : length (slim_bytes tr) ≡ 5 * k + 8 = omega arith in
    record {
      count = n;
      out-is =
          let o : out' ≡ encode (slim_of tr) ++ drop (5 * k) out = p.out-is ∙ ap (λ (m : ℕ). encode (slim_of tr) ++ drop (5 * m) out) (sym n) in
          let l : length out' ≡ length (encode (slim_of tr)) + length (drop (5 * k) out) = ap length o
          ∙ length-append (encode (slim_of tr)) (drop (5 * k) out) in
          let fits : leb (5 * k + 8) (length out') ≡ true = le-leb (5 * k + 8) (length out') (omega (arith, length-drop (5 * k) out)) in
          let vs : List ℕ = trailer (5 * k) events in
          let put : out'' ≡ stored out' (5 * k) vs = w ∙ rw fits in
          let after : out'' ≡ (encode (slim_of tr) ++ vs) ++ drop (5 * k + 8) out = put ∙ rw o (stored-after tr (encode (slim_of tr)) out vs (5 * k) five) in
          let m : events ≡ begins (past (slim_of tr) (length (slim_of tr))) = e ∙ sym (slim-events acc) in
          after ∙ rw (f, n, m);
    }

module _ (b : List ℕ) where
  -- the reading is refused
  pub reading-refused : {n p : ℕ} (out : List ℕ) (r : Result Slim Refusal) → refused n p ≡ read_reply b → compact_paper r ≡ refused n p → Compacts b out out r
  unfolding compact_reply then out_after unless
  reading-refused out r e q = record { answer = rw (← e) q; out-after = rw (← e) }

  module _ (t : Trace) (e : Accepts b t) where
    abbrev tr : List Record
    tr = records_in b t

    replies : (space : ℕ) → compact_reply b space ≡ compact_trace tr space
    unfolding compact_reply
    replies space = then-given e (λ t. compact_trace (records_in b t) space)

    -- the output space is too short
    pub space-short : {out out' : List ℕ} (f : Bool) (r : Result Slim Refusal) → Fits tr out out' f → f ≡ false → compact_paper r ≡ refused 24 0 → Compacts b out out' r
    unfolding compact_trace demand out_after unless
    space-short {out} f r w n q =
        let z : leb (length (slim_bytes tr)) (length out) ≡ false = sym w.tells ∙ n in
        let y : compact_reply b (length out) ≡ refused 24 0 = replies (length out) ∙ rw z in
        record { answer = q ∙ sym y; out-after = w.out-is ∙ rw y }

    -- the slim trace is written
    pub slim-written : {k : ℕ} {out out' out'' : List ℕ} (f : Bool) → Fits tr out out' f → f ≡ true → WritesSlim tr out' out'' k
        → Compacts b out out'' (Ok (record { length = 5 * k + 8; dropped = t.records - k }))
    unfolding compact_trace demand out_after unless dropped_in
    slim-written {k} {out} {out'} f h n w =
        let a = accepts b t e in
        let m : 5 * k + 8 ≡ length (slim_bytes tr) = omega (arith, w.count, trace-length (slim_of tr)) in
        let z : leb (length (slim_bytes tr)) (length out) ≡ true = sym h.tells ∙ n in
        let y : compact_reply b (length out) ≡ gives (record { length = length (slim_bytes tr); dropped = dropped_in tr }) = replies (length out) ∙ rw z in
        let d : t.records - k ≡ dropped_in tr = omega (arith, w.count, slim-length a.acceptable, sizes-together (dropped tr) (length tr), a.counts) in
        record { answer = rw (m, d) (sym y); out-after = w.out-is ∙ rw (h.out-is, y, records-read b t e) }

    -- so that it can be
    pub has_room : {out out' : List ℕ} (f : Bool) → Fits tr out out' f → f ≡ true → length (slim_bytes tr) ≤ length out'
    has_room {out} f h n = rw h.out-is (leb-true (length (slim_bytes tr)) (length out) (sym h.tells ∙ n))
