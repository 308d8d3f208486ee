-- Recorder and reader refuse the same records.
-- Assumes nothing.
use Prim.Native.Nat.{ℕ, zero, suc, ◌+◌, ◌*◌, ◌<◌, ◌≤◌}
use mathlib.Core.Path.{◌≡◌, refl, sym, ap, ◌∙◌}
use mathlib.Core.Bool.{Bool, true, false, cond}
use mathlib.Core.List.{List, [], ◌∷◌, ◌++◌, append-nil}
use mathlib.Core.Logic.{◌↔◌, ◌⊎◌, inl, inr}
use native.Mathlib.Omega.{arith}
use lib.Dec.{leb, eqb}
use lib.ListN.{length, drop, drop_of_length-le}
use lib.Seq.{drop-cons}
use Rattle.records.specs.declared.Record.{Record}
use Rattle.records.specs.Records.{no_record, at, past, begins}
use Rattle.trace.specs.Place.{between, place}
use Rattle.trace.specs.Rule.{situation, rule}
use Rattle.records.specs.declared.Trace.{Trace}
use Rattle.trace.specs.Reply.{Reply, refused, gives, demand, or_else}
use Rattle.trace.specs.Reading.{walk, read_reply, trace_from}
use Rattle.trace.proofs.ReplyLaws.{not-both}
use Rattle.trace.specs.Reading.{closing as ending}
use Rattle.records.specs.Encoding.{trace_of}
use Rattle.records.proofs.Records.{past-length}
use Rattle.records.proofs.Encoded.{AllNarrow}
use Rattle.trace.proofs.Encoded.{read-narrow}
use Rattle.recorder.specs.declared.Recorder.{Recorder}
use Rattle.recorder.specs.Recording.{Done, done, Left, pass, full, stops_inside, no_trailer, step_left, close_left}
use Rattle.recorder.specs.History.{Recording}
use Rattle.recorder.proofs.Left.{stepping, closing, pass-out}
use Rattle.recorder.proofs.Holds.{holds, step_is, narrow}
use Rattle.recorder.proofs.Recorded.{close-is}

-- records that pass are walked through
module _ (tr ys : List Record) (start m : ℕ) (each : (i : ℕ) → i < length tr → rule (past tr i) (at tr i) ≡ 0) where
  through : (k i : ℕ) → i + k ≡ length tr → walk start m (past tr i) (drop i tr ++ ys) ≡ walk start m (past tr (length tr)) ys
  unfolding walk past or_else
  through zero i l =
      let f : i ≡ length tr = omega arith in
      rw (f, drop_of_length-le tr {i = length tr} (omega arith))
  through (suc k) i l =
      let z : rule (past tr i) (at tr i) ≡ 0 = each i (omega arith) in
      let w = through k (suc i) (omega arith) in
      rw (drop-cons tr i no_record (omega arith), z) w

-- a refusal by the walk is a later record's, or 9 or 10
late : (t u : Bool) (q : ℕ) (y : Reply Trace) (n p : ℕ) → ((n p : ℕ) → y ≡ refused n p → ⊥) → demand t 9 q (demand u 10 0 y) ≡ refused n p → (n ≡ 9) ⊎ (n ≡ 10)
unfolding demand
late true true q y n p f e = absurd (f n p e)
late true false q y n p f e = let z : 10 ≡ n = cc in inr (sym z)
late false u q y n p f e = let z : 9 ≡ n = cc in inl (sym z)

later : (start m : ℕ) (rest done : List Record) (n p : ℕ) → walk start m done rest ≡ refused n p → ((n ≡ 9) ⊎ (n ≡ 10)) ⊎ (length done < p)
unfolding walk ending
later start m [] done n p e = inl (late (eqb (situation done) between) (eqb (begins done) m) (length done) _ n p
    (λ n p q. let z : ◌≡◌ {A = ℕ} 0 1 = cc in omega arith) e)
later start m (x ∷ rest) done n p e = go (rule done x) e (later start m rest (x ∷ done) n p)
  where
    wider : ((n ≡ 9) ⊎ (n ≡ 10)) ⊎ (suc (length done) < p) → ((n ≡ 9) ⊎ (n ≡ 10)) ⊎ (length done < p)
    wider (inl l) = inl l
    wider (inr l) = inr (omega arith)

    go : (v : ℕ) → or_else v (length done + 1) (walk start m (x ∷ done) rest) ≡ refused n p
        → (walk start m (x ∷ done) rest ≡ refused n p → ((n ≡ 9) ⊎ (n ≡ 10)) ⊎ (suc (length done) < p)) → ((n ≡ 9) ⊎ (n ≡ 10)) ⊎ (length done < p)
    go zero q f = wider (f (unfold or_else in q))
    go (suc v) q f = let z : length done + 1 ≡ p = unfold or_else in cc in inr (omega arith)

-- a refusal by number and place, in the recorder and in the reader
module _ (w : List ℕ) (r : Recorder) (k n : ℕ) (y : Left Done) (z : Reply Trace) where
  to-reader : (v : ℕ) → (y.answer ≡ refused n (k + 1) → ⊥) → (pass w r v (k + 1) y).answer ≡ refused n (k + 1) → or_else v (k + 1) z ≡ refused n (k + 1)
  unfolding pass or_else
  to-reader zero f e = absurd (f e)
  to-reader (suc v) f e = let q : suc v ≡ n = cc in rw q

  to-recorder : (v : ℕ) → (z ≡ refused n (k + 1) → ⊥) → or_else v (k + 1) z ≡ refused n (k + 1) → (pass w r v (k + 1) y).answer ≡ refused n (k + 1)
  unfolding pass or_else
  to-recorder zero f e = absurd (f e)
  to-recorder (suc v) f e = let q : suc v ≡ n = cc in rw q

-- 25 has no record for its place
no_place : (w : List ℕ) (r : Recorder) (y : Left Done) (v n k : ℕ) → y.answer ≡ done → (pass w r v 0 y).answer ≡ refused n (k + 1) → ⊥
unfolding pass
no_place w r y zero n k t e = let z : ◌≡◌ {A = ℕ} 0 1 = cc in omega arith
no_place w r y (suc v) n k t e = let z : 0 ≡ k + 1 = cc in omega arith

-- A step is refused with 4 to 8 or 31 exactly when the reader would refuse the trace there, by the same number and place; whatever records follow.
module _ {b : List ℕ} {tr : List Record} {w : List ℕ} {r : Recorder} (c : Recording b tr w r) (x : Record) (rest : List Record)
    (few : length (tr ++ x ∷ rest) ≤ 4096) (narrow : AllNarrow (tr ++ x ∷ rest)) (p : List ℕ) where
  abbrev m : ℕ
  m = begins (past (tr ++ x ∷ rest) (length (tr ++ x ∷ rest)))

  abbrev onwards : Reply Trace
  onwards = walk (length p) m (x ∷ past tr (length tr)) rest

  reader-says : read_reply (p ++ trace_of (tr ++ x ∷ rest)) ≡ or_else (rule (past tr (length tr)) x) (length tr + 1) onwards
  unfolding walk past
  reader-says =
      read-narrow (tr ++ x ∷ rest) few p narrow
      ∙ through tr (x ∷ rest) (length p) m (holds c).passes (length tr) 0 (omega arith)
      ∙ rw (past-length tr (length tr))

  pub refused-alike : (n : ℕ) → (n ≤ 8) ⊎ (n ≡ 31) → ((step_left w r x).answer ≡ refused n (length tr + 1))
      ↔ (read_reply (p ++ trace_of (tr ++ x ∷ rest)) ≡ refused n (length tr + 1))
  refused-alike n l =
      let h = holds c in
      let v = rule (past tr (length tr)) x in
      let y = pass w r (full w (length tr)) 0 (stepping w (length tr) x (place r.situation x.kind)) in (
        λ e. reader-says ∙ to-reader w r (length tr) n y onwards v (no_place w r _ (full w (length tr)) n (length tr) refl) (rw (step_is h x) at e),
        λ e. rw (step_is h x) (to-recorder w r (length tr) n y onwards v (λ q. ahead (later (length p) m rest (x ∷ past tr (length tr)) n (length tr + 1) q))
            (sym reader-says ∙ e)),
      )
    where
      not-closing : (n ≤ 8) ⊎ (n ≡ 31) → (n ≡ 9) ⊎ (n ≡ 10) → ⊥
      not-closing (inl i) (inl j) = omega arith
      not-closing (inl i) (inr j) = omega arith
      not-closing (inr i) (inl j) = omega arith
      not-closing (inr i) (inr j) = omega arith

      ahead : ((n ≡ 9) ⊎ (n ≡ 10)) ⊎ (suc (length (past tr (length tr))) < length tr + 1) → ⊥
      ahead (inl k) = not-closing l k
      ahead (inr k) = let q = past-length tr (length tr) in omega arith

nine-answer : (w : List ℕ) (r : Recorder) (t u : Bool) (v k : ℕ) (y : Left ℕ) → y.answer ≡ gives v
    → (pass w r (cond t 0 9) k (pass w r (cond u 0 25) 0 y)).answer ≡ refused 9 k → t ≡ false
unfolding pass
nine-answer w r true true v k y a e = let z : ◌≡◌ {A = ℕ} 0 1 = cc in absurd (omega arith)
nine-answer w r true false v k y a e = let z : ◌≡◌ {A = ℕ} 25 9 = cc in absurd (omega arith)
nine-answer w r false u v k y a e = refl

nine-reply : (t u : Bool) (k : ℕ) (a : Trace) → demand t 9 k (demand u 10 0 (gives a)) ≡ refused 9 k → t ≡ false
unfolding demand
nine-reply true true k a e = absurd (not-both a 9 k e)
nine-reply true false k a e = let z : ◌≡◌ {A = ℕ} 10 9 = cc in absurd (omega arith)
nine-reply false u k a e = refl

-- Closing is refused with 9 exactly when the reader would refuse the trace of the steps taken with 9, at the same place.
module _ {b : List ℕ} {tr : List Record} {w : List ℕ} {r : Recorder} (c : Recording b tr w r) (p : List ℕ) where
  abbrev between-now : Bool
  between-now = eqb (situation (past tr (length tr))) between

  reply-now : read_reply (p ++ trace_of tr)
      ≡ demand between-now 9 (length tr) (demand (eqb (begins (past tr (length tr))) (begins (past tr (length tr)))) 10 0
      (gives (trace_from (length p) tr)))
  unfolding walk ending past
  reply-now =
      read-narrow tr (holds c).few p (narrow (holds c))
      ∙ rw (append-nil tr) at (through tr [] (length p) (begins (past tr (length tr))) (holds c).passes (length tr) 0 (omega arith))
      ∙ rw (past-length tr (length tr))

  inside-out : between-now ≡ false → stops_inside r ≡ 9
  unfolding stops_inside
  inside-out e = rw ((holds c).stands, e)

  closing-left : (close_left w r).answer ≡ refused 9 (length tr) → between-now ≡ false
  unfolding stops_inside no_trailer
  closing-left e =
      let h = holds c in
      nine-answer w r between-now (leb (5 * length tr + 8) (length w)) _ (length tr) (closing w (length tr) r) refl (rw (← h.stands) (rw (close-is h) at e))

  pub nine-alike : ((close_left w r).answer ≡ refused 9 (length tr)) ↔ (read_reply (p ++ trace_of tr) ≡ refused 9 (length tr))
  unfolding demand
  nine-alike =
      let m = begins (past tr (length tr)) in (
        λ e. reply-now ∙ rw (closing-left e),
        λ e. ap (λ (l : Left ℕ). l.answer)
            (close-is (holds c) ∙ pass-out w r (stops_inside r) 8 (length tr) _
            (inside-out (nine-reply between-now (eqb m m) (length tr) (trace_from (length p) tr) (sym reply-now ∙ e)))),
      )
