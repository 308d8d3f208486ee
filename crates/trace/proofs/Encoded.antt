-- The bytes of a sequence of records, and the records of bytes, undo each other: each acceptable sequence of records has just one trace.
-- Assumes nothing.
use Prim.Native.Nat.{ℕ, suc, ◌+◌, ◌*◌, ◌-◌, ◌/◌, ◌%◌, ◌<◌, ◌≤◌}
use mathlib.Core.Path.{◌≡◌, refl, sym, ap, ◌∙◌}
use mathlib.Core.Bool.{Bool, true, false, cond, ◌&&◌, and-eq-true_iff}
use mathlib.Core.List.{List, [], ◌∷◌, ◌++◌, append_assoc}
use mathlib.Core.Logic.{◌⊎◌, inl, inr}
use native.Mathlib.Omega.{arith}
use borrow.Author.Tests.{leb-true, eqb-true, eq-eqb, le-leb}
use lib.Dec.{leb, ltb, eqb}
use lib.ListN.{length, get_or, drop, length-append, take-append-drop, drop_of_length-le}
use lib.Seq.{take_at, drop_at, drop-cons, drop-drop, get_or-append-add, get_or-drop, get_or-take}
use Rattle.records.specs.declared.Record.{Record}
use Rattle.records.specs.declared.Trace.{Trace}
use Rattle.slices.specs.Slices.{two_bytes}
use Rattle.records.specs.Bytes.{decode, part}
use Rattle.records.specs.Records.{at, past}
use Rattle.records.specs.Records.{begins as begin-count}
use Rattle.trace.specs.Place.{place}
use Rattle.trace.specs.Rule.{situation, numbered}
use Rattle.trace.specs.Reply.{gives, demand, then}
use Rattle.trace.specs.Reading.{walk, distance, trailer_reply, frame_reply, trace_from, records_in, read_reply, Accepts, Acceptable}
use Rattle.records.specs.Encoding.{Bytes, low, high, encode, trailer, trace_of}
use Rattle.records.proofs.Records.{past-length}
use Rattle.records.proofs.Encoded.{Narrow, AllNarrow, encode-length, decode-encode, encode-decode, begins-most, low-high, low_of, high-of, four_bytes}
use Rattle.trace.proofs.ReplyLaws.{passed, same-given}
use Rattle.trace.proofs.Accepted.{part_length, decoded, named, accepts, accepted-of}
use Rattle.trace.proofs.Marked.{formed}
use Rattle.trace.proofs.Blocks.{Passes, passes_at}
use Rattle.records.proofs.Positions.{lt-or-ge}
use Rattle.trace.proofs.PlaceRule.{Outside, begins, joins, Inside, ends, forks, reads, writes, sends, outside, inside}

in_range : (x : ℕ) → numbered x ≡ true → x ≤ 1024
unfolding numbered
in_range x h = leb-true x 1024 ((and-eq-true_iff (leb 1 x) (leb x 1024)).0 h).1

-- a record that passes 4 to 8 has fields that fit
pub passes-narrow : (before : List Record) (r : Record) → Passes before r → Narrow r
passes-narrow before r p =
    let f = formed r p.well-formed in
    let x = in_range r.first f.0 in
    let y = second_range (ltb r.kind 3) f.1 in
    let k = known-kind (lt-or-ge (situation before) 2) in
    record { kind_fits = omega arith; first_fits = omega arith; second_fits = omega arith }
  where
    second_range : (t : Bool) → cond t (eqb r.second 0) (numbered r.second) ≡ true → r.second ≤ 1024
    second_range true e = let z = eqb-true r.second 0 e in omega arith
    second_range false e = in_range r.second e

    outer : Outside r.kind (place (situation before) r.kind) → r.kind ≤ 19
    outer (begins k n) = omega arith
    outer (joins k n) = omega arith

    inner : Inside r.kind (place (situation before) r.kind) → r.kind ≤ 19
    inner (ends k n) = omega arith
    inner (forks k n) = omega arith
    inner (reads k n) = omega arith
    inner (writes k n) = omega arith
    inner (sends l k n) = k

    known-kind : (situation before < 2) ⊎ (2 ≤ situation before) → r.kind ≤ 19
    known-kind (inl l) = outer (outside (situation before) r.kind p.known p.placed l)
    known-kind (inr l) = inner (inside (situation before) r.kind p.known p.placed l)

-- records whose fields fit, at most 4,096 of them, and their trace after any bytes p
module _ (tr : List Record) (few : length tr ≤ 4096) (p : List ℕ) where
  abbrev d : ℕ
  d = 5 * length tr

  abbrev m : ℕ
  m = begin-count (past tr (length tr))

  abbrev b : List ℕ
  b = p ++ trace_of tr

  few-begins : m ≤ 4096
  few-begins = let c = begins-most (past tr (length tr)) in let l = past-length tr (length tr) in omega arith

  body-length : length (p ++ encode tr) ≡ length p + d
  body-length = simp (length-append, encode-length)

  apart : b ≡ (p ++ encode tr) ++ trailer d m
  unfolding trace_of
  apart = sym (append_assoc p (encode tr) (trailer d m))

  whole_length : length b ≡ length p + d + 8
  unfolding trailer
  whole_length = ap length apart ∙ simp (length-append, encode-length)

  trailer-at : (i k : ℕ) → i ≡ length p + d + k → get_or b i 0 ≡ get_or (trailer d m) k 0
  trailer-at i k e = rw (e, apart, ← body-length) (get_or-append-add (p ++ encode tr) (trailer d m) k 0)

  distance_is : distance b (length p + d) ≡ d
  unfolding distance trailer
  distance_is =
      let t = length p + d in
      rw (trailer-at t 0 (omega arith), trailer-at (t + 1) 1 (omega arith), trailer-at (t + 2) 2 (omega arith), trailer-at (t + 2 + 1) 3 (omega arith)) (four_bytes d (omega arith))

  frame_is : gives (named (trace_from (length p) tr)) ≡ frame_reply b
  unfolding frame_reply trailer_reply demand trailer
  frame_is =
      let t = length p + d in
      let w = whole_length in
      let e : length b - 8 ≡ t = omega arith in
      let s : t - d ≡ length p = omega arith in
      let n : d / 5 ≡ length tr = omega arith in
      let c = few-begins in
      simp (
        e,
        distance_is,
        le-leb 8 (length b) (omega arith),
        trailer-at (t + 7) 7 refl,
        trailer-at (t + 6) 6 refl,
        trailer-at (t + 4) 4 refl,
        trailer-at (t + 4 + 1) 5 (omega arith),
        eq-eqb (d % 5) 0 (omega arith),
        le-leb d 20480 (omega arith),
        le-leb d t (omega arith),
        low-high m (omega arith),
        s,
        n,
      )

  module _ (narrow : AllNarrow tr) where
    pub records-narrow : records_in b (trace_from (length p) tr) ≡ tr
    unfolding records_in part trace_of
    records-narrow =
        rw (drop_at p (trace_of tr) (length p) refl, take_at (encode tr) (trailer d m) (5 * length tr) (encode-length tr))
        (decode-encode tr narrow)

    named-narrow : records_in b (named (trace_from (length p) tr)) ≡ tr
    unfolding records_in
    named-narrow = records-narrow

    -- the reader's reply is what the walk over the records gives
    pub read-narrow : read_reply b ≡ walk (length p) m [] tr
    unfolding read_reply then
    read-narrow = rw (← frame_is) (ap (walk (length p) m []) named-narrow)

-- the reader accepts the trace of an acceptable sequence of records, and reads the records
module _ {tr : List Record} (a : Acceptable tr) (p : List ℕ) where
  narrow : AllNarrow tr
  narrow i h = passes-narrow (past tr i) (at tr i) (passes_at a i h)

  pub records-encoded : records_in (p ++ trace_of tr) (trace_from (length p) tr) ≡ tr
  records-encoded = records-narrow tr a.few p narrow

  pub read-encoded : Accepts (p ++ trace_of tr) (trace_from (length p) tr)
  read-encoded =
      let e = records-encoded in
      accepted-of (p ++ trace_of tr) (trace_from (length p) tr) (frame_is tr a.few p) (rw e a) (rw e) (rw e)

-- what the trailer says
record Closes (b : List ℕ) (s n m : ℕ) : Type 0 where
  ends : length b ≡ s + 5 * n + 8
  mark : get_or b (s + 5 * n + 7) 0 ≡ 167
  edition : get_or b (s + 5 * n + 6) 0 ≡ 1
  back : distance b (s + 5 * n) ≡ 5 * n
  begun : two_bytes b (s + 5 * n + 4) ≡ m

closes : (b : List ℕ) (r : Trace) → gives r ≡ frame_reply b → Closes b r.start r.records r.events
unfolding frame_reply trailer_reply
closes b r e =
    let t = length b - 8 in
    let d = distance b t in
    let p1 = passed _ _ _ _ r e in
    let p2 = passed _ _ _ _ r p1.1 in
    let p3 = passed _ _ _ _ r p2.1 in
    let p4 = passed _ _ _ _ r p3.1 in
    let t1 = (and-eq-true_iff (eqb (d % 5) 0 && leb d 20480) (leb d t)).0 p4.0 in
    let t2 = (and-eq-true_iff (eqb (d % 5) 0) (leb d 20480)).0 t1.0 in
    let l = leb-true 8 (length b) p1.0 in
    let q1 = leb-true d t t1.1 in
    let q3 = eqb-true (d % 5) 0 t2.0 in
    let q = same-given p4.1 in
    let es : r.start ≡ t - d = ap (λ (x : Trace). x.start) q in
    let en : r.records ≡ d / 5 = ap (λ (x : Trace). x.records) q in
    let et : r.start + 5 * r.records ≡ t = omega arith in
    record {
      ends = omega arith;
      mark = rw et (eqb-true (get_or b (t + 7) 0) 167 p2.0);
      edition = rw et (eqb-true (get_or b (t + 6) 0) 1 p3.0);
      back = rw et (omega arith);
      begun = rw et (sym (ap (λ (x : Trace). x.events) q));
    }

-- the bytes that a trailer is read from are the trailer
module _ (b : List ℕ) (bytes : Bytes b) (t d m : ℕ) (ends : length b ≡ t + 8)
    (mark : get_or b (t + 7) 0 ≡ 167) (edition : get_or b (t + 6) 0 ≡ 1) (back : distance b t ≡ d) (begun : two_bytes b (t + 4) ≡ m) where
  next : (i j : ℕ) → j ≡ suc i → i < length b → drop i b ≡ get_or b i 0 ∷ drop j b
  next i j e h = rw e (drop-cons b i 0 h)

  tail-trailer : drop t b ≡ trailer d m
  unfolding distance trailer
  tail-trailer =
      let e0 = next t (t + 1) (omega arith) (omega arith) in
      let e1 = next (t + 1) (t + 2) (omega arith) (omega arith) in
      let e2 = next (t + 2) (t + 2 + 1) (omega arith) (omega arith) in
      let e3 = next (t + 2 + 1) (t + 4) (omega arith) (omega arith) in
      let e4 = next (t + 4) (t + 4 + 1) (omega arith) (omega arith) in
      let e5 = next (t + 4 + 1) (t + 6) (omega arith) (omega arith) in
      let e6 = next (t + 6) (t + 7) (omega arith) (omega arith) in
      let e7 = next (t + 7) (t + 8) (omega arith) (omega arith) in
      let e8 = drop_of_length-le b {i = t + 8} (omega arith) in
      let h0 = bytes t (omega arith) in
      let h1 = bytes (t + 1) (omega arith) in
      let h2 = bytes (t + 2) (omega arith) in
      let h3 = bytes (t + 2 + 1) (omega arith) in
      let h4 = bytes (t + 4) (omega arith) in
      let h5 = bytes (t + 4 + 1) (omega arith) in
      let q0 : low d ≡ get_or b t 0 = omega arith in
      let w : d / 256 ≡ get_or b (t + 1) 0 + 256 * two_bytes b (t + 2) = omega arith in
      let q1 : high d ≡ get_or b (t + 1) 0 = rw w (low_of (get_or b (t + 1) 0) (two_bytes b (t + 2)) h1) in
      let v : d / 65536 ≡ two_bytes b (t + 2) = omega arith in
      let q2 : low (d / 65536) ≡ get_or b (t + 2) 0 = rw v (low_of (get_or b (t + 2) 0) (get_or b (t + 2 + 1) 0) h2) in
      let q3 : high (d / 65536) ≡ get_or b (t + 2 + 1) 0 = rw v (high-of (get_or b (t + 2) 0) (get_or b (t + 2 + 1) 0) h2 h3) in
      let q4 : low m ≡ get_or b (t + 4) 0 = rw (← begun) (low_of (get_or b (t + 4) 0) (get_or b (t + 4 + 1) 0) h4) in
      let q5 : high m ≡ get_or b (t + 4 + 1) 0 = rw (← begun) (high-of (get_or b (t + 4) 0) (get_or b (t + 4 + 1) 0) h4 h5) in
      cc

module _ (b : List ℕ) (s n : ℕ) (fits : s + 5 * n ≤ length b) where
  part_bytes : Bytes b → Bytes (part b s n)
  unfolding part
  part_bytes h i l =
      let k = part_length b s n fits in
      rw (get_or-take (5 * n) (drop s b) i 0 (omega arith), get_or-drop s b i 0) (h (s + i) (omega arith))

  -- some bytes are the bytes of their records
  pub part-encoded : Bytes b → encode (decode (part b s n)) ≡ part b s n
  part-encoded h = encode-decode n (part b s n) (part_length b s n fits) (part_bytes h)

  after-part : drop s b ≡ part b s n ++ drop (s + 5 * n) b
  unfolding part
  after-part = sym (take-append-drop (5 * n) (drop s b)) ∙ rw (drop-drop (5 * n) s b)

  closed-part : Bytes b → (m : ℕ) → begin-count (past (decode (part b s n)) n) ≡ m → drop (s + 5 * n) b ≡ trailer (5 * n) m → drop s b ≡ trace_of (decode (part b s n))
  unfolding trace_of
  closed-part h m e back = after-part ∙ rw (decoded b s n fits, back, e, part-encoded h)

-- Each acceptable sequence of records has just one trace, counted from record 1.
pub one-trace : (b : List ℕ) (t : Trace) → Bytes b → Accepts b t → drop t.start b ≡ trace_of (records_in b t)
unfolding records_in
one-trace b t h e =
    let a = accepts b t e in
    let c = closes b (named t) a.named_so in
    let ends = c.ends in
    closed-part b t.start t.records (omega arith) h t.events a.begun
    (tail-trailer b h (t.start + 5 * t.records) (5 * t.records) t.events ends c.mark c.edition c.back c.begun)
