-- The pair question from the bytes on: how each refusal ends, and what preparing hands on. Assumes nothing.
use Prim.Native.Nat.{ℕ, ◌-◌, ◌≤◌, min, max}
use mathlib.Core.Path.{◌≡◌, refl, sym, ◌∙◌, subst}
use mathlib.Core.Bool.{true, ◌&&◌, and-eq-true_iff}
use mathlib.Core.List.{List, ◌++◌}
use native.Mathlib.Omega.{arith}
use borrow.Author.Tests.{leb-true}
use lib.Dec.{T, leb, leb→le, le→leb}
use lib.ListN.{length, drop, replicate}
use Rattle.records.specs.declared.Record.{Record}
use Rattle.records.specs.declared.Trace.{Trace}
use Rattle.records.specs.Bytes.{decode, part}
use Rattle.slices.specs.Slices.{cleared}
use Rattle.trace.specs.Reply.{Reply, refused, gives}
use Rattle.trace.specs.Reading.{records_in, records_read}
use Rattle.trace.proofs.Accepted.{accepts, records-read}
use Rattle.order.specs.Fill.{chains_used}
use Rattle.order.specs.Lent.{asking, work_for, spaced}
use Rattle.order.specs.Prepare.{asked, read_within}
use Rattle.order.specs.Paper.{fill_paper, Prepares}
use Rattle.order.proofs.EntryLaws.{records-are}
use Rattle.order.proofs.LentLaws.{Asks, asks, same-asking, stays}
use Rattle.order.proofs.LentLaws.{filled as made}
use Rattle.order.proofs.PrepareLaws.{prepared}
use Rattle.slices.proofs.Tests.{both, and, same}
use Rattle.std.proofs.Common.{Result}
use Rattle.trace.specs.declared.Refusal.{Refusal}
use Rattle.pair.specs.declared.Verdict.{Verdict}
use Rattle.races.specs.loops.FilledClocks as hand
use Rattle.pair.specs.Pair.{PairMark, pair_paper, is_record, are_records, pair_filled, pair_ready, pair_reply, PairPromise, ListAfter, entries_given}
use Rattle.pair.specs.loops.Answers.{AnswersFilled}
use Rattle.races.specs.loops.FilledClocks.{Clear}
use Rattle.races.proofs.PreparedLaws.{marks-cleared, after-work, fitting, filled-whole, work-clear}

-- the two records are in the trace
pub record InTrace (tr : List Record) (a b : ℕ) : Type 0 where
  pub first : 1 ≤ a
  pub first_inside : a ≤ length tr
  pub second : 1 ≤ b
  pub second_inside : b ≤ length tr

in-trace : (tr : List Record) (a b : ℕ) → are_records tr a b ≡ true → InTrace tr a b
unfolding are_records is_record
in-trace tr a b e =
    let p = (and-eq-true_iff (leb 1 a && leb a (length tr)) (leb 1 b && leb b (length tr))).0 e in
    let x = (and-eq-true_iff (leb 1 a) (leb a (length tr))).0 p.0 in
    let y = (and-eq-true_iff (leb 1 b) (leb b (length tr))).0 p.1 in
    record { first = leb-true 1 a x.0; first_inside = leb-true a (length tr) x.1; second = leb-true 1 b y.0; second_inside = leb-true b (length tr) y.1 }

-- they are where the smaller and the larger of their numbers are
are-asked : (tr : List Record) (a b n : ℕ) → length tr ≡ n → asked (min a b) (max a b) n ≡ are_records tr a b
unfolding asked are_records is_record
are-asked tr a b n e = same _ _ there back
  where
    there : T (leb 1 (min a b) && leb (max a b) n) → T ((leb 1 a && leb a (length tr)) && (leb 1 b && leb b (length tr)))
    there h =
        let p = both (leb 1 (min a b)) (leb (max a b) n) h in
        let x = leb→le 1 (min a b) p.0 in
        let y = leb→le (max a b) n p.1 in
        and (leb 1 a && leb a (length tr)) _ (and (leb 1 a) (leb a (length tr)) (le→leb 1 a (omega arith)) (le→leb a (length tr) (omega arith))) (and (leb 1 b) (leb b (length tr)) (le→leb 1 b (omega arith)) (le→leb b (length tr) (omega arith)))

    back : T ((leb 1 a && leb a (length tr)) && (leb 1 b && leb b (length tr))) → T (leb 1 (min a b) && leb (max a b) n)
    back h =
        let p = both (leb 1 a && leb a (length tr)) (leb 1 b && leb b (length tr)) h in
        let x = both (leb 1 a) (leb a (length tr)) p.0 in
        let y = both (leb 1 b) (leb b (length tr)) p.1 in
        let x1 = leb→le 1 a x.0 in
        let x2 = leb→le a (length tr) x.1 in
        let y1 = leb→le 1 b y.0 in
        let y2 = leb→le b (length tr) y.1 in
        and (leb 1 (min a b)) (leb (max a b) n) (le→leb 1 (min a b) (omega arith)) (le→leb (max a b) n (omega arith))

-- the trace was prepared for both records
pub for-pair : (a b room : ℕ) {bytes : List ℕ} {lo hi w : ℕ} {cs cs' chosen ranks ranks' : List ℕ} {f : Result ℕ Refusal} {t : Trace} → lo ≡ min a b → hi ≡ max a b
    → Prepares bytes (read_within bytes lo hi w (length cs) room) w cs cs' chosen ranks ranks' f t → Prepares bytes (pair_ready bytes w (length cs) room a b) w cs cs' chosen ranks ranks' f t
unfolding read_within pair_ready
for-pair a b room {bytes} {lo} {hi} {w} {cs} {cs'} {chosen} {ranks} {ranks'} {f} {t} low high p =
    subst (λ (x : Reply Trace). Prepares bytes (spaced x w (length cs) (work_for room)) w cs cs' chosen ranks ranks' f t)
    (same-asking bytes _ _ (λ x e. rw (low, high) (are-asked (records_in bytes x) a b x.records (accepts bytes x e).counts))) p

-- and then the marks of its event actions were taken away
module _ (bytes : List ℕ) (a b w : ℕ) (cs cs' work work' chosen list : List ℕ) (f : Result ℕ Refusal) (t : Trace) {ranks ranks' : List ℕ}
    (p : Prepares bytes (pair_ready bytes w (length cs) (length work) a b) w cs cs' chosen ranks ranks' f t) (clears : work' ≡ cleared t.events work) where
  abbrev Promise : List ℕ → List ℕ → Result Verdict Refusal → Type 0
  Promise work'' list' r = PairPromise bytes w cs cs' work work'' list list' a b r

  abbrev found : Reply Trace
  found = asking bytes (λ x. are_records (records_in bytes x) a b)

  zeros : work' ≡ replicate t.events 0 ++ drop t.events work
  unfolding pair_ready
  zeros = marks-cleared work found p clears

  -- the promise, by the reply
  promise : (work'' list' : List ℕ) (r : Result Verdict Refusal) (y : Reply PairMark) → pair_reply bytes w (length cs) (length work) (length list) a b ≡ y → pair_paper r ≡ y → work'' ≡ work'
      → ListAfter (records_read bytes) (a - 1) (b - 1) y (entries_given r) list list' → Promise work'' list' r
  promise work'' list' r y q g k l = record {
    answer = g ∙ sym q;
    clocks-after = p.clocks-after;
    work-after = k ∙ unfold pair_ready in after-work work found p zeros;
    list-after = rw q l;
  }

  pub not-asked : (k i : ℕ) → fill_paper f ≡ refused k i → (r : Result Verdict Refusal) → pair_paper r ≡ refused k i → Promise work' list r
  unfolding pair_reply
  not-asked k i z r g = promise work' list r (refused k i) (stays bytes _ w _ _ k i (sym p.answer ∙ z)) g refl refl

  -- what asking needs, and what it gives
  module _ (k : ℕ) (z : fill_paper f ≡ gives k) where
    pub record Askable (recs : List ℕ) : Type 0 where
      pub filled : hand.FilledClocks (decode recs) ranks' chosen w cs'
      pub chains-used : k ≡ chains_used (decode recs)
      pub both_in : InTrace (decode recs) a b
      pub clear : Clear (decode recs) t.events work'
      pub answers : (work'' list' : List ℕ) (r : Result Verdict Refusal) → AnswersFilled (decode recs) t.events (a - 1) (b - 1) list list' r → work'' ≡ work' → Promise work'' list' r

    has : Asks bytes (λ x. are_records (records_in bytes x) a b) t
    unfolding pair_ready
    has = asks bytes _ t (fitting work found p k z).found-is

    pub askable : (recs : List ℕ) → recs ≡ part bytes t.start t.records → Askable recs
    unfolding pair_reply pair_ready
    askable recs y =
        let g = prepared p k z in
        let d = records-are bytes t has.accepted recs y in
        record {
          filled = rw d (filled-whole work found p k z has.accepted);
          chains-used = rw d g.chains_are;
          both_in = rw d (in-trace (records_in bytes t) a b has.is_there);
          clear = rw d (work-clear work found p k z has.accepted zeros);
          answers = λ work'' list' r l u.
              let v = subst (λ (x : List Record). AnswersFilled x t.events (a - 1) (b - 1) list list' r) d l in
              promise work'' list' r (pair_filled (records_in bytes t) t.events (length list) (a - 1) (b - 1)) (made bytes _ w _ t g.ready_is g.enough) v.answer u (rw (records-read bytes t has.accepted) v.list-after);
        }
