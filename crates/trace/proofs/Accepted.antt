-- What an accepted reply says, and what makes a reply accepted.
-- Assumes nothing.
use Prim.Native.Nat.{ℕ, zero, suc, ◌+◌, ◌*◌, ◌-◌, ◌/◌, ◌%◌, ◌<◌, ◌≤◌}
use mathlib.Core.Path.{◌≡◌, refl, sym, ap, ◌∙◌}
use mathlib.Core.Bool.{false, ◌&&◌, and-eq-true_iff}
use mathlib.Core.List.{List, []}
use mathlib.Core.Logic.{⊎_elim}
use native.Mathlib.Omega.{arith}
use native.Mathlib.Nat.{eq-or-lt_of_le}
use borrow.Author.Tests.{leb-true, eqb-true, eq-eqb}
use lib.Dec.{leb, eqb}
use lib.ListN.{length, drop, length-drop, length-take, drop_of_length-le}
use lib.Seq.{drop-cons}
use Rattle.records.specs.declared.Record.{Record}
use Rattle.records.specs.declared.Trace.{Trace}
use Rattle.records.specs.Bytes.{decode, part}
use Rattle.records.specs.Records.{no_record, at, past, begins}
use Rattle.records.specs.Kinds.{has_send}
use Rattle.trace.specs.Place.{between}
use Rattle.trace.specs.Rule.{situation, rule}
use Rattle.trace.specs.Reply.{Reply, gives, demand, or_else, then}
use Rattle.trace.specs.Reading.{closing, walk, distance, trailer_reply, frame_reply, records_in, read_reply, records_read, Accepts, Acceptable}
use Rattle.records.proofs.Decoded.{decoded-length}
use Rattle.records.proofs.Records.{past-length}
use Rattle.trace.proofs.ReplyLaws.{passed, passed-record, same-given, given_by, unless-given}

-- what the trailer accepts: at most 4,096 records, which end where the trailer starts
pub record Framed (b : List ℕ) (t : Trace) : Type 0 where
  pub few : t.records ≤ 4096
  pub ends : t.start + 5 * t.records + 8 ≡ length b

pub framed : (b : List ℕ) (t : Trace) → gives t ≡ frame_reply b → Framed b t
unfolding frame_reply trailer_reply
framed b r e =
    let t = length b - 8 in
    let d = distance b t in
    let p1 = passed _ _ _ _ r e in
    let p2 = passed _ _ _ _ r p1.1 in
    let p3 = passed _ _ _ _ r p2.1 in
    let p4 = passed _ _ _ _ r p3.1 in
    let t1 = (and-eq-true_iff (eqb (d % 5) 0 && leb d 20480) (leb d t)).0 p4.0 in
    let t2 = (and-eq-true_iff (eqb (d % 5) 0) (leb d 20480)).0 t1.0 in
    let l = leb-true 8 (length b) p1.0 in
    let q1 = leb-true d t t1.1 in
    let q2 = leb-true d 20480 t2.1 in
    let q3 = eqb-true (d % 5) 0 t2.0 in
    let q4 = same-given p4.1 in
    let es : r.start ≡ t - d = ap (λ (x : Trace). x.start) q4 in
    let en : r.records ≡ d / 5 = ap (λ (x : Trace). x.records) q4 in
    record { few = omega arith; ends = omega arith }

pub part_length : (b : List ℕ) (s n : ℕ) → s + 5 * n ≤ length b → length (part b s n) ≡ 5 * n
unfolding part
part_length b s n h = simp (length-take, length-drop) (omega arith)

-- so many bytes hold so many records
pub decoded : (b : List ℕ) (s n : ℕ) → s + 5 * n ≤ length b → length (decode (part b s n)) ≡ n
decoded b s n h = let l = part_length b s n h in let d = decoded-length (part b s n) in omega arith

pub records-length : {b : List ℕ} {t : Trace} → Framed b t → length (records_in b t) ≡ t.records
unfolding records_in
records-length {b} {t} f = let e = f.ends in decoded b t.start t.records (omega arith)

-- the walk from record i on is accepted: each record from there passes its rule, and the trace closes after the last
module _ (tr : List Record) (start m : ℕ) where
  abbrev pub Each : ℕ → Type 0
  Each i = (j : ℕ) → i ≤ j → j < length tr → rule (past tr j) (at tr j) ≡ 0

  pub record Walked (i : ℕ) (x : Reply Trace) : Type 0 where
    pub each : Each i
    pub closes : x ≡ closing start m (past tr (length tr))

  pub walked : (k i : ℕ) (t : Trace) → i + k ≡ length tr → gives t ≡ walk start m (past tr i) (drop i tr) → Walked i (gives t)
  unfolding walk past
  walked zero i t l q =
      let f : i ≡ length tr = omega arith in
      record { each = λ j a b. absurd (omega arith); closes = q ∙ simp (f, drop_of_length-le tr {i = length tr} (omega arith)) }
  walked (suc k) i t l q =
      let p = passed-record _ _ _ t (rw (drop-cons tr i no_record (omega arith)) at q) in
      let w = walked k (suc i) t (omega arith) p.1 in
      record { each = λ j a b. ⊎_elim (λ z. rw (← z) p.0) (λ z. w.each j z b) (eq-or-lt_of_le a); closes = w.closes }

  -- and the other way: records that pass are walked to the end
  walks : (k i : ℕ) → i + k ≡ length tr → Each i → walk start m (past tr i) (drop i tr) ≡ closing start m (past tr (length tr))
  unfolding walk past or_else
  walks zero i l h =
      let f : i ≡ length tr = omega arith in
      simp (f, drop_of_length-le tr {i = length tr} (omega arith))
  walks (suc k) i l h =
      let z : rule (past tr i) (at tr i) ≡ 0 = h i (omega arith) (omega arith) in
      let w = walks k (suc i) (omega arith) (λ j a b. h j (omega arith) b) in
      rw (drop-cons tr i no_record (omega arith), z) w

-- what the trailer says of it: of sends nothing
abbrev pub named : Trace → Trace
named t = record { start = t.start; records = t.records; events = t.events; sends = false }

-- An accepted trace is the one that the trailer names: its bounds, acceptable records, their number, the number of begins, and whether there is a send.
pub record AcceptedTrace (b : List ℕ) (t : Trace) : Type 0 where
  pub named_so : gives (named t) ≡ frame_reply b
  pub frame : Framed b t
  pub counts : length (records_in b t) ≡ t.records
  pub acceptable : Acceptable (records_in b t)
  pub begun : begins (past (records_in b t) t.records) ≡ t.events
  pub sent : has_send (past (records_in b t) t.records) ≡ t.sends

-- the walk over what the trailer names gives just that
walked_whole : (b : List ℕ) (n t : Trace) → n ≡ named n → gives n ≡ frame_reply b → gives t ≡ walk n.start n.events [] (records_in b n) → AcceptedTrace b t
unfolding closing past records_in
walked_whole b n t o f q =
    let tr = records_in b n in
    let fr = framed b n f in
    let l = records-length fr in
    let w = walked tr n.start n.events (length tr) 0 t (omega arith) q in
    let c1 = passed _ _ _ _ t w.closes in
    let c2 = passed _ _ _ _ t c1.1 in
    let k = eqb-true _ _ c2.0 in
    let few = fr.few in
    let e : t ≡ record { start = n.start; records = n.records; events = n.events; sends = has_send (past tr (length tr)) } =
    same-given c2.1
    ∙ (λ z. record { start = n.start; records = (past-length tr (length tr) ∙ l) z; events = k z; sends = has_send (past tr (length tr)) }) in
    rw e (record {
      named_so = sym (ap (λ (x : Trace). gives x) o) ∙ f;
      frame = record { few = fr.few; ends = fr.ends };
      counts = l;
      acceptable = record { few = omega arith; passes = λ i h. w.each i (omega arith) h; closed = eqb-true _ _ c1.0 };
      begun = rw l at k;
      sent = rw l;
    })

-- the trailer says nothing of sends
frame-named : (b : List ℕ) (n : Trace) → gives n ≡ frame_reply b → n ≡ named n
unfolding frame_reply trailer_reply
frame-named b n e =
    let p1 = passed _ _ _ _ n e in
    let p2 = passed _ _ _ _ n p1.1 in
    let p3 = passed _ _ _ _ n p2.1 in
    let p4 = passed _ _ _ _ n p3.1 in
    let q = same-given p4.1 in
    let s : n.sends ≡ false = ap (λ (x : Trace). x.sends) q in
    λ z. record { start = n.start; records = n.records; events = n.events; sends = s z }

pub accepts : (b : List ℕ) (t : Trace) → Accepts b t → AcceptedTrace b t
unfolding read_reply
accepts b t e = let g = given_by (frame_reply b) _ t e in walked_whole b g.0 t (frame-named b g.0 g.1) g.1 g.2

pub records-read : (b : List ℕ) (t : Trace) → Accepts b t → records_read b ≡ records_in b t
unfolding records_read
records-read b t e = unless-given e [] _

-- whatever passes every rule is accepted
pub accepted-of : (b : List ℕ) (t : Trace) → gives (named t) ≡ frame_reply b → Acceptable (records_in b t)
    → begins (past (records_in b t) t.records) ≡ t.events → has_send (past (records_in b t) t.records) ≡ t.sends → Accepts b t
unfolding read_reply then closing demand past records_in
accepted-of b t f a c d =
    let tr = records_in b t in
    let l = records-length (framed b (named t) f) in
    rw (← f) (sym (walks tr t.start t.events (length tr) 0 (omega arith) (λ j h k. a.passes j k)
    ∙ simp (l, eq-eqb (situation (past tr t.records)) between (rw l at a.closed), c, eq-eqb t.events t.events refl, past-length tr t.records, d)))
