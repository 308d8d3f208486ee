-- What a recording keeps: the bytes hold the steps taken, and the recorder stands where they lead.
-- Assumes nothing.
use Prim.Native.Nat.{ℕ, zero, suc, min, ◌+◌, ◌*◌, ◌<◌, ◌≤◌}
use mathlib.Core.Path.{◌≡◌, refl, sym, ap, ◌∙◌}
use mathlib.Core.Bool.{Bool, true, false, cond}
use mathlib.Core.List.{List, [], ◌∷◌, ◌++◌}
use mathlib.Core.Logic.{◌⊎◌, inl, inr}
use native.Mathlib.Omega.{arith}
use native.Mathlib.Nat.{eq-or-lt_of_le, le_of_suc-le-suc, not-suc-le-zero}
use borrow.Author.Tests.{leb-true, le-leb}
use lib.Dec.{leb}
use lib.ListN.{length, take, drop, length-append, length-take, length-drop}
use lib.Seq.{take_at, drop_at}
use Rattle.records.specs.declared.Record.{Record}
use Rattle.records.specs.Records.{at, past, is_begin}
use Rattle.trace.specs.Place.{between, place}
use Rattle.links.specs.Begin.{begin_blocked}
use Rattle.trace.specs.Rule.{situation, owner, behind, rule}
use Rattle.trace.specs.Plain.{plain_rule}
use Rattle.records.specs.Bytes.{decode, part}
use Rattle.trace.specs.Reply.{Reply, refused, gives}
use Rattle.trace.proofs.ReplyLaws.{not-both}
use Rattle.records.specs.Encoding.{encode, stored}
use Rattle.records.proofs.Encoded.{AllNarrow, encode-length, encode-append, decode-encode}
use Rattle.trace.proofs.Encoded.{passes-narrow}
use Rattle.trace.proofs.Passed.{Passes, passing}
use Rattle.trace.proofs.Behind.{rule-passes, judge-alike, behind-is}
use Rattle.trace.proofs.Whole.{begin-told}
use Rattle.recorder.specs.declared.Recorder.{Recorder}
use Rattle.recorder.specs.Recording.{Done, done, Left, pass, held, before, judged, closed_already, space, full}
use Rattle.recorder.specs.Recording.{stops_inside, no_trailer, open_left, step_left, close_left}
use Rattle.recorder.specs.History.{Unaltered, Recording, opening, lent, step, refused_step, refused_closing}
use Rattle.recorder.proofs.Left.{refusing, stepping, pass_on, step-open, full-zero, spaced}
use Rattle.recorder.proofs.Appended.{at_front, past-front, at-seam, past-seam}

-- stored bytes
module _ (b : List ℕ) (p : ℕ) (vs : List ℕ) (fits : p + length vs ≤ length b) where
  front_length : length (take p b ++ vs) ≡ p + length vs
  front_length = simp (length-append, length-take) (omega arith)

  split : stored b p vs ≡ (take p b ++ vs) ++ drop (p + length vs) b
  unfolding stored
  split = refl

  pub stored-length : length (stored b p vs) ≡ length b
  stored-length = ap length split ∙ simp (length-append (take p b ++ vs), front_length, length-drop) (omega arith)

  pub stored-front : take (p + length vs) (stored b p vs) ≡ take p b ++ vs
  stored-front = rw split (take_at (take p b ++ vs) (drop (p + length vs) b) (p + length vs) front_length)

  pub stored-beyond : drop (p + length vs) (stored b p vs) ≡ drop (p + length vs) b
  stored-beyond = rw split (drop_at (take p b ++ vs) (drop (p + length vs) b) (p + length vs) front_length)

-- what a test lets through
module _ {A : Type 0} (b : List ℕ) (r : Recorder) (p : ℕ) (y : Left A) where
  pub through : (n : ℕ) (a : A) → (pass b r n p y).answer ≡ gives a → (n ≡ 0) × (y.answer ≡ gives a)
  unfolding pass
  through zero a e = (refl, e)
  through (suc n) a e = absurd (not-both a (suc n) p (sym e))

  -- a refusal leaves recorder and bytes
  pub through-refused : (n k q : ℕ) → (y.answer ≡ refused k q → y ≡ refusing b r k q) → (pass b r n p y).answer ≡ refused k q
      → pass b r n p y ≡ refusing b r k q
  unfolding pass
  through-refused zero k q f e = f e
  through-refused (suc n) k q f e = ap (λ (o : Reply A). record { answer = o; recorder = r; bytes = b }) e

pub step-refused : (b : List ℕ) (r : Recorder) (x : Record) (k q : ℕ) → (step_left b r x).answer ≡ refused k q → step_left b r x ≡ refusing b r k q
unfolding step_left
step-refused b r x k q =
    through-refused b r 0 _ (closed_already r) k q
    (through-refused b r (held r + 1) _ (judged b (held r) r x) k q
    (through-refused b r 0 _ (full b (held r)) k q (λ e. absurd (not-both _ k q e))))

pub close-refused : (b : List ℕ) (r : Recorder) (k q : ℕ) → (close_left b r).answer ≡ refused k q → close_left b r ≡ refusing b r k q
unfolding close_left
close-refused b r k q =
    through-refused b r 0 _ (closed_already r) k q
    (through-refused b r (held r) _ (stops_inside r) k q
    (through-refused b r 0 _ (no_trailer b (held r)) k q (λ e. absurd (not-both _ k q e))))

pub record Holds (tr : List Record) (w : List ℕ) (r : Recorder) : Type 0 where
  pub is_open : r.closed ≡ false
  pub counts : r.count ≡ length tr
  pub few : length tr ≤ 4096
  pub fits : 5 * length tr ≤ length w
  pub front : take (5 * length tr) w ≡ encode tr
  pub passes : (i : ℕ) → i < length tr → rule (past tr i) (at tr i) ≡ 0
  pub stands : r.situation ≡ situation (past tr (length tr))
  pub owns : r.owner.0 ≡ owner (past tr (length tr))

module _ {tr : List Record} {w : List ℕ} {r : Recorder} (h : Holds tr w r) where
  passes_at : (i : ℕ) → i < length tr → Passes (past tr i) (at tr i)
  passes_at i l = passing (past tr i) (at tr i) (rule-passes tr i (h.passes i l)).0

  pub narrow : AllNarrow tr
  narrow i l = passes-narrow (past tr i) (at tr i) (passes_at i l)

  pub held-is : held r ≡ length tr
  unfolding held
  held-is = let c = h.counts in let f = h.few in omega arith

  records-are : decode (part w 0 (length tr)) ≡ tr
  unfolding part
  records-are = rw h.front (decode-encode tr narrow)

  pub before-is : before w (length tr) ≡ past tr (length tr)
  unfolding before
  before-is = rw records-are

  -- what is computed for 31 is 31
  links-told : (x : Record) → plain_rule (past tr (length tr)) x ≡ 0 → is_begin x ≡ true → begin_blocked tr x.first ≡ behind x.first (past tr (length tr))
  links-told x e b =
      begin-told (record { passes_at = passes_at }) (λ i l. (rule-passes tr i (h.passes i l)).1) h.few x (passing (past tr (length tr)) x e) b
      ∙ sym (behind-is tr (length tr) x.first)

  -- the recorder's check is the reader's rule
  pub judged-is : (x : Record) → judged w (length tr) r x ≡ rule (past tr (length tr)) x
  unfolding judged rule plain_rule
  judged-is x =
      rw (before-is, records-are, h.stands, h.owns)
      (judge-alike (situation (past tr (length tr))) (owner (past tr (length tr))) x _ _ _ _ (behind x.first (past tr (length tr))) (links-told x))

  pub step_is : (x : Record) → step_left w r x ≡ pass w r (rule (past tr (length tr)) x) (length tr + 1)
      (pass w r (full w (length tr)) 0 (stepping w (length tr) x (place r.situation x.kind)))
  step_is x = rw (← judged-is x) (step-open w r h.is_open (length tr) (sym held-is) x)

-- opening
abbrev pub fresh : List ℕ → Left Done
fresh b = record { answer = done; recorder = record { count = 0; situation = between; owner = record { 0 = 0 }; closed = false }; bytes = b }

pub open_is : (b : List ℕ) → 8 ≤ length b → open_left b ≡ fresh b
unfolding open_left
open_is b l = rw (le-leb 8 (length b) l)

pub open-long : (b : List ℕ) → (open_left b).answer ≡ done → 8 ≤ length b
unfolding open_left
open-long b e = leb-true 8 (length b) (go (leb 8 (length b)) (fresh b) _ refl e)
  where
    go : (t : Bool) (x y : Left Done) → y.answer ≡ refused 25 0 → (cond t x y).answer ≡ done → t ≡ true
    go true x y q e = refl
    go false x y q e = let z : ◌≡◌ {A = ℕ} 0 1 = cc in absurd (omega arith)

pub opened : (b : List ℕ) → Holds [] b (fresh b).recorder
unfolding encode situation owner past
opened b = record {
  is_open = refl;
  counts = refl;
  few = omega arith;
  fits = omega arith;
  front = refl;
  passes = λ i k. absurd (not-suc-le-zero k);
  stands = refl;
  owns = refl;
}

-- a step that is taken
module _ {tr : List Record} {w : List ℕ} {r : Recorder} (h : Holds tr w r) (x : Record) where
  pub record Steps : Type 0 where
    pub allowed : rule (past tr (length tr)) x ≡ 0
    pub spacious : space w (length tr) ≡ true
    pub leaves : step_left w r x ≡ stepping w (length tr) x (place r.situation x.kind)

  pub steps : (step_left w r x).answer ≡ done → Steps
  steps e =
      let q = through w r (length tr + 1) _ (rule (past tr (length tr)) x) tt (rw (step_is h x) at e) in
      let q2 = through w r 0 _ (full w (length tr)) tt q.1 in
      record { allowed = q.0; spacious = full-zero w (length tr) q2.0; leaves = step_is h x ∙ pass_on w r _ _ _ q.0 ∙ pass_on w r _ _ _ q2.0 }

  abbrev more : List Record
  more = tr ++ (x ∷ [])

  abbrev last : Recorder
  last = record { count = length tr + 1; situation = place r.situation x.kind; owner = record { 0 = x.first }; closed = false }

  abbrev bytes : List ℕ
  bytes = stored w (5 * length tr) (encode (x ∷ []))

  more-length : length more ≡ suc (length tr)
  more-length = let l = length-append tr (x ∷ []) in omega arith

  passes-more : rule (past tr (length tr)) x ≡ 0 → (i : ℕ) → i < length more → rule (past more i) (at more i) ≡ 0
  passes-more e i k = go (eq-or-lt_of_le (le_of_suc-le-suc (rw more-length at k)))
    where
      go : (i ≡ length tr) ⊎ (i < length tr) → rule (past more i) (at more i) ≡ 0
      go (inl q) = rw (q, at-seam tr x [], past-front tr (x ∷ []) (length tr) (omega arith)) e
      go (inr l) = rw (at_front tr (x ∷ []) i l, past-front tr (x ∷ []) i (omega arith)) (h.passes i l)

  stepped : rule (past tr (length tr)) x ≡ 0 → space w (length tr) ≡ true → Holds more bytes last
  unfolding situation owner
  stepped e f =
      let l = more-length in
      let p = past-seam tr x [] in
      let s = spaced w (length tr) f in
      let v : length (encode (x ∷ [])) ≡ 5 = encode-length (x ∷ []) in
      let t : 5 * suc (length tr) ≡ 5 * length tr + length (encode (x ∷ [])) = omega arith in
      let fits : 5 * length tr + length (encode (x ∷ [])) ≤ length w = omega arith in
      let n = stored-length w (5 * length tr) (encode (x ∷ [])) fits in
      record {
        is_open = refl;
        counts = omega arith;
        few = omega arith;
        fits = omega arith;
        front = rw (l, t, stored-front w (5 * length tr) (encode (x ∷ [])) fits, h.front) (sym (encode-append tr (x ∷ [])));
        passes = passes-more e;
        stands = rw (l, p, ← h.stands);
        owns = rw (l, p);
      }

-- other bytes in which the records are unaltered hold the steps too
lent-holds : {tr : List Record} {w : List ℕ} {r : Recorder} → Holds tr w r → (w' : List ℕ) → Unaltered r w w' → Holds tr w' r
lent-holds {tr} {w} h w' u =
    let f : take (5 * length tr) w' ≡ encode tr = rw (held-is h) at u ∙ h.front in
    let l : min (5 * length tr) (length w') ≡ 5 * length tr = sym (length-take (5 * length tr) w') ∙ ap length f ∙ encode-length tr in
    record {
      is_open = h.is_open;
      counts = h.counts;
      few = h.few;
      fits = omega arith;
      front = f;
      passes = h.passes;
      stands = h.stands;
      owns = h.owns;
    }

-- a recording holds its steps
pub holds : {b : List ℕ} {tr : List Record} {w : List ℕ} {r : Recorder} → Recording b tr w r → Holds tr w r
holds {b} (opening e) = rw (open_is b (open-long b e)) (opened b)
holds (lent c w' u) = lent-holds (holds c) w' u
holds (step c x e) = let h = holds c in let s = steps h x e in rw s.leaves (stepped h x s.allowed s.spacious)
holds (refused_step {w = w} {r = r} c x n p e) = rw (step-refused w r x n p e) (holds c)
holds (refused_closing {w = w} {r = r} c n p e) = rw (close-refused w r n p e) (holds c)
