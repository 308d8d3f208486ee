-- A recording over one space leaves its length, and the bytes after the records as they were at the opening.
-- Assumes nothing.
use Prim.Native.Nat.{ℕ, ◌+◌, ◌*◌, ◌≤◌}
use mathlib.Core.Path.{◌≡◌, refl, sym, ap, ◌∙◌}
use mathlib.Core.List.{List, [], ◌∷◌, ◌++◌}
use native.Mathlib.Omega.{arith}
use lib.ListN.{length, drop, length-append}
use lib.Seq.{drop-drop}
use Rattle.records.specs.declared.Record.{Record}
use Rattle.records.specs.Encoding.{encode}
use Rattle.records.proofs.Encoded.{encode-length}
use Rattle.recorder.specs.declared.Recorder.{Recorder}
use Rattle.records.specs.Encoding.{stored}
use Rattle.recorder.specs.History.{Recording, opening, lent, step, refused_step, refused_closing, OneSpace, BeyondIsUnchanged}
use Rattle.recorder.proofs.Left.{spaced}
use Rattle.recorder.proofs.Holds.{holds, steps, open_is, open-long, stored-length, stored-beyond, step-refused, close-refused}
use Rattle.recorder.proofs.Recorded.{closed-trace}

pub record Untouched (b : List ℕ) (n : ℕ) (w : List ℕ) : Type 0 where
  pub long : length w ≡ length b
  pub beyond : drop n w ≡ drop n b

further : (p k : ℕ) (w b : List ℕ) → drop p w ≡ drop p b → drop (p + k) w ≡ drop (p + k) b
further p k w b e = sym (drop-drop k p w) ∙ ap (drop k) e ∙ drop-drop k p b

-- some bytes stored from n on
untouched-stored : (b : List ℕ) (n : ℕ) (w vs : List ℕ) → n + length vs ≤ length w → Untouched b n w → Untouched b (n + length vs) (stored w n vs)
untouched-stored b n w vs fits u = record {
  long = stored-length w n vs fits ∙ u.long;
  beyond = stored-beyond w n vs fits ∙ further n (length vs) w b u.beyond;
}

pub untouched : {b : List ℕ} {tr : List Record} {w : List ℕ} {r : Recorder} (c : Recording b tr w r) → OneSpace c → Untouched b (5 * length tr) w
unfolding OneSpace
untouched {b} (opening e) o = rw (open_is b (open-long b e)) (record { long = refl; beyond = refl })
untouched (lent c w' u) o = absurd o
untouched {b} (step {tr = tr} {w = w} c x e) o =
    let s = steps (holds c) x e in
    let f = spaced w (length tr) s.spacious in
    let v = encode-length (x ∷ []) in
    let l = length-append tr (x ∷ []) in
    let t : 5 * length (tr ++ (x ∷ [])) ≡ 5 * length tr + length (encode (x ∷ [])) = omega arith in
    rw (s.leaves, t) (untouched-stored b (5 * length tr) w (encode (x ∷ [])) (omega arith) (untouched c o))
untouched (refused_step {w = w} {r = r} c x n p e) o = rw (step-refused w r x n p e) (untouched c o)
untouched (refused_closing {w = w} {r = r} c n p e) o = rw (close-refused w r n p e) (untouched c o)

pub closed-beyond : BeyondIsUnchanged
closed-beyond b tr w r c o n e =
    let z = closed-trace b tr w r c n e in
    z.beyond ∙ rw z.long (further (5 * length tr) 8 w b (untouched c o).beyond)
