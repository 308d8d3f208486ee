-- The walk over the records by 4 to 8, turn by turn: what the reader's loop keeps, and what each way out of it shows.
-- Assumes nothing.
use Prim.Native.Nat.{ℕ, ◌+◌, ◌<◌, ◌≤◌}
use mathlib.Core.Path.{◌≡◌, refl, sym, ap, ◌∙◌}
use mathlib.Core.Bool.{Bool, true, false, cond, ◌&&◌, ◌||◌, and-eq-true_iff}
use mathlib.Core.List.{List, [], ◌∷◌}
use mathlib.Core.Logic.{◌⊎◌, inl, inr}
use native.Mathlib.Omega.{arith}
use native.Mathlib.Nat.{eq-or-lt_of_le, le_of_suc-le-suc}
use native.Mathlib.Numerals.{add-one}
use borrow.Author.Tests.{leb-true, eq-eqb, ne_eqb, le-ltb, lt-leb}
use lib.Dec.{eqb, leb}
use lib.ListN.{length, drop, drop_of_length-le}
use lib.Seq.{drop-cons}
use Rattle.records.specs.declared.Record.{Record}
use Rattle.records.specs.Records.{no_record, at, past, begins}
use Rattle.records.specs.Kinds.{has_send}
use Rattle.slices.specs.Slices.{zeros}
use Rattle.trace.specs.Place.{between, inside, place}
use Rattle.trace.specs.Rule.{situation, owner, numbered, well_formed, misplaced, again, early, judge}
use Rattle.trace.specs.loops.Status.{has_begun, has_ended, noted}
use Rattle.trace.specs.loops.Inner.{Inner, Accesses, none, more}
use Rattle.trace.specs.Reply.{refused, gives, demand, or_else}
use Rattle.trace.specs.Reading.{closing}
use Rattle.trace.specs.Plain.{plain_rule, plain_walk, Passed}
use Rattle.trace.proofs.ReplyLaws.{stops}
use Rattle.records.proofs.Records.{past_more, past-length}
use Rattle.trace.proofs.Marked.{formed, judge-same}
use Rattle.trace.proofs.StatusLaws.{Tracks, tracks-start, tracks-next}
use Rattle.trace.proofs.PlaceRule.{inside-access}
use Rattle.trace.proofs.Passed.{passing, again-start, Running, running-start, running-next, body-begun}

-- one turn of the walk
walk_step : (tr : List Record) (start m i : ℕ) → i < length tr
    → plain_walk start m (past tr i) (drop i tr)
    ≡ or_else (plain_rule (past tr i) (at tr i)) (i + 1) (plain_walk start m (past tr (i + 1)) (drop (i + 1) tr))
unfolding plain_walk past
walk_step tr start m i h = rw (drop-cons tr i no_record h, past-length tr i, add-one i)

-- Before the record at position i the walk over all records has come to the rest of them; situation, event, number of begins and each event's status are those after the records before,
-- which all pass.
pub record Going (tr : List Record) (start m s e f i : ℕ) (w : Bool) (st : List ℕ) : Type 0 where
  pub within : i ≤ length tr
  pub stands : s ≡ situation (past tr i)
  pub owns : e ≡ owner (past tr i)
  pub counts : f ≡ begins (past tr i)
  pub few : f ≤ i
  pub named : s ≡ inside → numbered e ≡ true
  pub running : Running (past tr i)
  pub tracks : Tracks st (past tr i)
  pub sent : w ≡ has_send (past tr i)
  pub each : (x : ℕ) → x < i → plain_rule (past tr x) (at tr x) ≡ 0
  pub comes : plain_walk start m [] tr ≡ plain_walk start m (past tr i) (drop i tr)

pub going_start : (tr : List Record) (start m : ℕ) → Going tr start m 0 0 0 0 false (zeros 1025)
unfolding situation owner past begins has_send
going_start tr start m = record {
  within = omega arith;
  stands = refl;
  owns = refl;
  counts = refl;
  few = omega arith;
  named = λ z. absurd (omega arith);
  running = running-start;
  tracks = tracks-start;
  sent = refl;
  each = λ x l. absurd (omega arith);
  comes = refl;
}

at_most_one : (t : Bool) {f i : ℕ} → f ≤ i → cond t (f + 1) f ≤ i + 1
at_most_one true h = omega arith
at_most_one false h = omega arith

pub in_range : (x : ℕ) → numbered x ≡ true → x < 1025
unfolding numbered
in_range x h = let p = leb-true x 1024 ((and-eq-true_iff (leb 1 x) (leb x 1024)).0 h).1 in omega arith

module _ {tr : List Record} {start m s e f i : ℕ} {w : Bool} {st : List ℕ} (g : Going tr start m s e f i w st) where
  -- the walk's end, after k records
  pub going_end : {k : ℕ} → k ≡ length tr → k ≤ i → plain_walk start m [] tr ≡ demand (eqb s between) 9 k (demand (eqb f m) 10 0 (gives (record { start = start; records = k; events = f; sends = w })))
  unfolding plain_walk closing
  going_end {k} z h =
      let l = g.within in
      let q : k ≡ i = omega arith in
      g.comes ∙ simp (drop_of_length-le tr {i = i} (omega arith), past-length, ← g.stands, ← g.counts, ← g.sent, q)

  -- all records have passed
  pub all_passed : {k : ℕ} → k ≡ length tr → k ≤ i → Passed tr k
  all_passed z h =
      let l = g.within in
      record { within = omega arith; each = λ x b. g.each x (omega arith); next = λ b. absurd (omega arith) }

  pub all-sent : {k : ℕ} → k ≡ length tr → k ≤ i → w ≡ has_send (past tr k)
  all-sent {k} z h = let l = g.within in let q : k ≡ i = omega arith in rw q g.sent

  module _ (h : i < length tr) (r : Record) (er : r ≡ at tr i) where
    -- the facts that the status of events gives are the records' own
    judged : plain_rule (past tr i) r ≡ judge s e r (has_begun st r.first) (has_begun st r.second) (has_ended st r.second) false
    unfolding plain_rule
    judged =
        rw (← g.stands, ← g.owns) (judge-same s e r _ _ _ _ _ _ false
        (λ k. sym (g.tracks.begins r.first (in_range r.first k)))
        (λ k. (sym (g.tracks.begins r.second (in_range r.second k)), sym (g.tracks.ends r.second (in_range r.second k)))))

    turn : plain_walk start m [] tr
        ≡ or_else (judge s e r (has_begun st r.first) (has_begun st r.second) (has_ended st r.second) false) (i + 1) (plain_walk start m (past tr (i + 1)) (drop (i + 1) tr))
    turn = g.comes ∙ walk_step tr start m i h ∙ simp (← er, judged)

    module _ (k : ℕ) (v : k ≡ judge s e r (has_begun st r.first) (has_begun st r.second) (has_ended st r.second) false) where
      -- the record has a fault: that is the walk's reply
      pub going-refused : (k ≡ 0 → ⊥) → refused k (i + 1) ≡ plain_walk start m [] tr
      going-refused h = stops k (i + 1) (plain_walk start m (past tr (i + 1)) (drop (i + 1) tr)) h ∙ simp v (sym turn)

      -- so the records before it are just those that pass
      pub going-stopped : (k ≡ 0 → ⊥) → Passed tr i
      going-stopped n = record { within = g.within; each = g.each; next = λ b z. n (v ∙ sym judged ∙ ap (plain_rule (past tr i)) er ∙ z) }

      -- it has none: so the walk goes on
      pub going_next : k ≡ 0 → (next : ℕ) → next ≡ place s r.kind → (f' : ℕ) → f' ≡ cond (eqb r.kind 1) (f + 1) f
          → (w' : Bool) → w' ≡ (leb 16 r.kind && leb r.kind 19 || w) → Going tr start m next r.first f' (i + 1) w' (noted st r)
      unfolding situation owner begins or_else has_send
      going_next z next q f' c w' d =
          let more : past tr (i + 1) ≡ r ∷ past tr i = past_more tr i ∙ simp (← er) in
          let p = passing (past tr i) r (judged ∙ sym v ∙ z) in
          let own = (formed r p.well-formed).0 in
          record {
            within = omega arith;
            stands = q ∙ simp (more, ← g.stands);
            owns = simp more;
            counts = c ∙ simp (more, ← g.counts);
            few = rw c (at_most_one (eqb r.kind 1) g.few);
            named = λ t. own;
            running = rw more (running-next p g.running);
            tracks = rw more (tracks-next g.tracks r (in_range r.first own) (λ k. again-start r _ _ (inl k) p.fresh) (λ k. body-begun p g.running (λ q. omega arith) (λ q. omega arith)));
            sent = d ∙ simp (more, ← g.sent);
            each = λ x l. last x (eq-or-lt_of_le (le_of_suc-le-suc (rw (add-one i) at l)));
            comes = turn ∙ simp (← v, z);
          }
        where
          last : (x : ℕ) → (x ≡ i) ⊎ (x < i) → plain_rule (past tr x) (at tr x) ≡ 0
          last x (inl p) = rw (p, ← er) (judged ∙ sym v ∙ z)
          last x (inr l) = g.each x l

-- an access by the open event passes its rule and changes nothing
inner-passes : {e : ℕ} {r : Record} → Inner e r → numbered e ≡ true → (a b c : Bool) → 0 ≡ judge 2 e r a b c false
unfolding judge well_formed misplaced again early
inner-passes {e} {r} n t a b c =
    let k = n.access in
    let l = n.kind_low in
    simp (
      inside-access r.kind (omega arith) l,
      n.own,
      t,
      n.cell,
      eq-eqb e e refl,
      le-ltb r.kind 3 (omega arith),
      ne_eqb r.kind 1 (λ p. omega arith),
      ne_eqb r.kind 3 (λ p. omega arith),
      lt-leb 16 r.kind (omega arith),
      ne_eqb r.kind 4 (λ p. omega arith),
    )

module _ {tr : List Record} {start m s e f : ℕ} {w : Bool} {st : List ℕ} where
  going-inner : {i : ℕ} → Going tr start m s e f i w st → s ≡ inside → i < length tr → Inner e (at tr i) → Going tr start m s e f (i + 1) w st
  unfolding noted
  going-inner {i} g q h n =
      let k = n.access in
      let l = n.kind_low in
      let r = at tr i in
      let placed : place 2 r.kind ≡ 2 = inside-access r.kind (omega arith) l in
      rw q (simp (n.own, ne_eqb r.kind 1 (λ p. omega arith), ne_eqb r.kind 2 (λ p. omega arith))
      at (going_next g h r refl 0 (rw q (inner-passes n (g.named q) _ _ _)) refl 2 (sym (rw q placed)) f (simp (ne_eqb r.kind 1 (λ p. omega arith))) w
      (simp (lt-leb 16 r.kind (omega arith)))))

  pub going-along : {i j : ℕ} → Accesses tr s e i j → Going tr start m s e f i w st → Going tr start m s e f j w st
  going-along none g = g
  going-along (more a q h n) g = going-inner (going-along a g) q h n

pub accesses-on : {tr : List Record} {s e i j : ℕ} → Accesses tr s e i j → i ≤ j
accesses-on none = omega arith
accesses-on (more a q h n) = let l = accesses-on a in omega arith
