-- What a step and closing leave, by the way that they go.
-- Assumes nothing.
use Prim.Native.Nat.{ℕ, zero, suc, ◌+◌, ◌*◌, ◌≤◌, ◌<◌}
use mathlib.Core.Path.{◌≡◌, refl, sym, ◌∙◌}
use mathlib.Core.Bool.{Bool, true, false, cond, and-eq-true_iff}
use mathlib.Core.List.{List, [], ◌∷◌}
use native.Mathlib.Omega.{arith}
use borrow.Author.Tests.{eq-eqb, ne_eqb, le-leb, lt-leb, leb-true, ltb-true, lt-ltb}
use lib.Dec.{leb, ltb}
use lib.ListN.{length}
use Rattle.records.specs.declared.Record.{Record}
use Rattle.records.specs.Records.{begins}
use Rattle.trace.specs.Place.{between, place}
use Rattle.records.specs.Encoding.{encode, trailer, stored}
use Rattle.trace.specs.Reply.{Reply, refused, gives, or_else}
use Rattle.trace.proofs.ReplyLaws.{not-both, same-given, passed-record}
use Rattle.recorder.specs.declared.Recorder.{Recorder}
use Rattle.recorder.specs.Recording.{Done, done, Left, pass, held, before, judged, closed_already, space, full, stops_inside, no_trailer}
use Rattle.recorder.specs.Recording.{step_left, close_left}

abbrev pub refusing : {A : Type 0} → List ℕ → Recorder → ℕ → ℕ → Left A
refusing b r n p = record { answer = refused n p; recorder = r; bytes = b }

-- the record is stored, the trace is closed
abbrev pub stepping : List ℕ → ℕ → Record → ℕ → Left Done
stepping b n x s = record {
  answer = done;
  recorder = record { count = n + 1; situation = s; owner = record { 0 = x.first }; closed = false };
  bytes = stored b (5 * n) (encode (x ∷ []));
}

abbrev pub closing : List ℕ → ℕ → Recorder → Left ℕ
closing b n r = record {
  answer = gives (5 * n + 8);
  recorder = record { count = r.count; situation = r.situation; owner = r.owner; closed = true };
  bytes = stored b (5 * n) (trailer (5 * n) (begins (before b n)));
}

-- a test passed, and a test failed
pub pass_on : {A : Type 0} (b : List ℕ) (r : Recorder) (n p : ℕ) (y : Left A) → n ≡ 0 → pass b r n p y ≡ y
unfolding pass
pass_on b r n p y e = rw e

pub pass-out : {A : Type 0} (b : List ℕ) (r : Recorder) (n k p : ℕ) (y : Left A) → n ≡ suc k → pass b r n p y ≡ refusing b r (suc k) p
unfolding pass
pass-out b r n k p y e = rw e

-- a check that fails, and one that passes
failing : {A : Type 0} (b : List ℕ) (r : Recorder) (y : Left A) (n op next k p : ℕ) → refused k p ≡ or_else n op (gives next)
    → pass b r n op y ≡ refusing b r k p
unfolding pass or_else
failing b r y zero op next k p e = absurd (not-both next k p (sym e))
failing b r y (suc n) op next k p e = cc

passing : (n op next s : ℕ) → gives s ≡ or_else n op (gives next) → (n ≡ 0) × (s ≡ next)
passing n op next s e = let p = passed-record n op (gives next) s e in (p.0, same-given p.1)

module _ (b : List ℕ) (r : Recorder) where
  closed-refusal : r.closed ≡ true → closed_already r ≡ 26
  unfolding closed_already
  closed-refusal e = rw e

  pub open-still : r.closed ≡ false → closed_already r ≡ 0
  unfolding closed_already
  open-still e = rw e

  pub step-closed : (x : Record) → r.closed ≡ true → refusing b r 26 0 ≡ step_left b r x
  unfolding step_left
  step-closed x e = sym (pass-out b r (closed_already r) 25 0 _ (closed-refusal e))

  pub close-closed : r.closed ≡ true → refusing b r 26 0 ≡ close_left b r
  unfolding close_left
  close-closed e = sym (pass-out b r (closed_already r) 25 0 _ (closed-refusal e))

  module _ (o : r.closed ≡ false) (n : ℕ) (en : n ≡ held r) where
    -- the code's check of record x
    module _ (x : Record) where
      abbrev Judged : Reply ℕ
      Judged = or_else (judged b n r x) (n + 1) (gives (place r.situation x.kind))

      -- past 26
      pub step-open : step_left b r x ≡ pass b r (judged b n r x) (n + 1) (pass b r (full b n) 0 (stepping b n x (place r.situation x.kind)))
      unfolding step_left
      step-open = rw en (pass_on b r (closed_already r) 0 _ (open-still o))

      pub step-judged : (k p : ℕ) → refused k p ≡ Judged → refusing b r k p ≡ step_left b r x
      step-judged k p v = sym (step-open ∙ failing b r _ (judged b n r x) (n + 1) (place r.situation x.kind) k p v)

      pub step-full : (s : ℕ) → gives s ≡ Judged → full b n ≡ 25 → refusing b r 25 0 ≡ step_left b r x
      step-full s v f =
          let p = passing (judged b n r x) (n + 1) (place r.situation x.kind) s v in
          sym (step-open ∙ pass_on b r (judged b n r x) (n + 1) _ p.0 ∙ pass-out b r (full b n) 24 0 _ f)

      pub step-taken : (s : ℕ) → gives s ≡ Judged → full b n ≡ 0 → stepping b n x s ≡ step_left b r x
      step-taken s v f =
          let p = passing (judged b n r x) (n + 1) (place r.situation x.kind) s v in
          rw p.1 (sym (step-open ∙ pass_on b r (judged b n r x) (n + 1) _ p.0 ∙ pass_on b r (full b n) 0 _ f))

    pub close_open : close_left b r ≡ pass b r (stops_inside r) n (pass b r (no_trailer b n) 0 (closing b n r))
    unfolding close_left
    close_open = rw en (pass_on b r (closed_already r) 0 _ (open-still o))

    stops : (r.situation ≡ 0 → ⊥) → stops_inside r ≡ 9
    unfolding stops_inside
    stops s = rw (ne_eqb r.situation between s)

    outside : r.situation ≡ 0 → stops_inside r ≡ 0
    unfolding stops_inside
    outside s = rw (eq-eqb r.situation between s)

    pub close-inside : (r.situation ≡ 0 → ⊥) → refusing b r 9 n ≡ close_left b r
    close-inside s = sym (close_open ∙ pass-out b r (stops_inside r) 8 n _ (stops s))

    pub close-short : r.situation ≡ 0 → length b < 5 * n + 8 → refusing b r 25 0 ≡ close_left b r
    unfolding no_trailer
    close-short s l = sym (close_open ∙ pass_on b r (stops_inside r) n _ (outside s) ∙ pass-out b r (no_trailer b n) 24 0 _
        (rw (lt-leb (5 * n + 8) (length b) l)))

    pub close-done : r.situation ≡ 0 → 5 * n + 8 ≤ length b → closing b n r ≡ close_left b r
    unfolding no_trailer
    close-done s l = sym (close_open ∙ pass_on b r (stops_inside r) n _ (outside s) ∙ pass_on b r (no_trailer b n) 0 _ (rw (le-leb (5 * n + 8) (length b) l)))

-- no space, or space
module _ (b : List ℕ) (n : ℕ) where
  pub full-none : space b n ≡ false → full b n ≡ 25
  unfolding full
  full-none e = rw e

  pub full-not : space b n ≡ true → full b n ≡ 0
  unfolding full
  full-not e = rw e

  pub full-zero : full b n ≡ 0 → space b n ≡ true
  unfolding full
  full-zero e = go (space b n) e
    where
      go : (t : Bool) → ◌≡◌ {A = ℕ} (cond t 0 25) 0 → t ≡ true
      go true q = refl
      go false q = absurd (omega arith)

  pub spaced : space b n ≡ true → (n < 4096) × (5 * n + 5 + 8 ≤ length b)
  unfolding space
  spaced e =
      let p = (and-eq-true_iff (ltb n 4096) (leb (5 * n + 5 + 8) (length b))).0 e in
      (ltb-true n 4096 p.0, leb-true (5 * n + 5 + 8) (length b) p.1)

  pub has-space : n < 4096 → 5 * n + 5 + 8 ≤ length b → space b n ≡ true
  unfolding space
  has-space l h = rw (lt-ltb n 4096 l, le-leb (5 * n + 5 + 8) (length b) h)
