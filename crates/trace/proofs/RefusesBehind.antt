-- A reading gives 31 exactly where its sentence says.
-- Assumes nothing.
use Prim.Native.Nat.{ℕ, zero, suc, ◌+◌, ◌<◌}
use mathlib.Core.Path.{◌≡◌, refl, sym, ◌∙◌, subst}
use mathlib.Core.Bool.{Bool, true, false}
use mathlib.Core.List.{List, []}
use mathlib.Core.Logic.{◌⊎◌, inl, inr}
use native.Mathlib.Omega.{arith}
use native.Mathlib.Nat.{eq-or-lt_of_le, le_of_suc-le-suc}
use lib.Dec.{T}
use lib.ListN.{length, drop, drop_of_length-le}
use Rattle.records.specs.declared.Record.{Record}
use Rattle.records.specs.declared.Trace.{Trace}
use Rattle.records.specs.Records.{at, past}
use Rattle.slices.proofs.Tests.{passed}
use Rattle.precedence.specs.Sound.{Sound}
use Rattle.precedence.proofs.Theorems.{refusal-decides}
use Rattle.trace.specs.Rule.{rule}
use Rattle.trace.specs.Reply.{Reply, refused, gives, demand, or_else, then}
use Rattle.trace.specs.Reading.{closing, walk, trailer_reply, frame_reply, records_in, read_reply}
use Rattle.trace.specs.Behind.{BehindAt, RefusedBehind, RefusesBehind}
use Rattle.trace.proofs.ReplyLaws.{not-both, then-given}
use Rattle.trace.proofs.Passed.{passing}
use Rattle.trace.proofs.Behind.{rule-passes, rule-31, rule-only-31}
use Rattle.trace.proofs.Walks.{walk_at, walk-to}
use Rattle.trace.proofs.Whole.{free-sound}

module _ {A : Type 0} where
  same-refused : {n p n' p' : ℕ} → ◌≡◌ {A = Reply A} (refused n p) (refused n' p') → (n ≡ n') × (p ≡ p')
  same-refused e = (cc, cc)

  -- a demand of another number gives no 31
  not_there : (t : Bool) (n p place : ℕ) (y : Reply A) → n < 31 → refused 31 place ≡ demand t n p y → refused 31 place ≡ y
  unfolding demand
  not_there true n p place y l e = e
  not_there false n p place y l e = let q = (same-refused e).0 in absurd (omega arith)

closing-not : (start m : ℕ) (before : List Record) (place : ℕ) → refused 31 place ≡ closing start m before → ⊥
unfolding closing
closing-not start m before place e =
    let a = not_there _ 9 _ place _ (omega arith) e in
    let b = not_there _ 10 0 place _ (omega arith) a in
    not-both _ 31 place (sym b)

frame-not : (b : List ℕ) (place : ℕ) → refused 31 place ≡ frame_reply b → ⊥
unfolding frame_reply trailer_reply
frame-not b place e =
    let a1 = not_there _ 1 0 place _ (omega arith) e in
    let a2 = not_there _ 1 0 place _ (omega arith) a1 in
    let a3 = not_there _ 2 0 place _ (omega arith) a2 in
    let a4 = not_there _ 3 0 place _ (omega arith) a3 in
    not-both _ 31 place (sym a4)

module _ (tr : List Record) where
  abbrev Passing : ℕ → Type 0
  Passing i = (j : ℕ) → j < i → rule (past tr j) (at tr j) ≡ 0

  passing-sound : {i : ℕ} → Passing i → Sound tr i
  passing-sound f =
      free-sound (record { passes_at = λ j h. passing (past tr j) (at tr j) (rule-passes tr j (f j h)).0 }) (λ j h. (rule-passes tr j (f j h)).1)

  one_more : {i : ℕ} → Passing i → rule (past tr i) (at tr i) ≡ 0 → Passing (suc i)
  one_more {i} f e j l = go (eq-or-lt_of_le (le_of_suc-le-suc l))
    where
      go : (j ≡ i) ⊎ (j < i) → rule (past tr j) (at tr j) ≡ 0
      go (inl q) = rw q e
      go (inr k) = f j k

  module _ (start m place : ℕ) where
    abbrev Found : Type 0
    Found = (i : ℕ) × (place ≡ i + 1) × BehindAt tr i

    refused-at : {i : ℕ} → i < length tr → Passing i → rule (past tr i) (at tr i) ≡ 31 → BehindAt tr i
    refused-at {i} h f e =
        let (o, g, k) = rule-only-31 tr i e in
        record { inside = h; passed = f; is-begin = g; others = o; behind = (refusal-decides (passing-sound f) (at tr i).first).0 (subst T (sym k) tt) }

    found : (k i : ℕ) → i + k ≡ length tr → Passing i → refused 31 place ≡ walk start m (past tr i) (drop i tr) → Found
    unfolding walk
    found zero i l f e = absurd (closing-not start m (past tr i) place (rw (drop_of_length-le tr {i = i} (omega arith)) at e))
    found (suc k) i l f e = go (rule (past tr i) (at tr i)) refl (e ∙ walk_at tr start m i (omega arith)) (found k (suc i) (omega arith))
      where
        rest : Reply Trace
        rest = walk start m (past tr (suc i)) (drop (suc i) tr)

        go : (n : ℕ) → rule (past tr i) (at tr i) ≡ n → refused 31 place ≡ or_else n (i + 1) rest → (Passing (suc i) → refused 31 place ≡ rest → Found) → Found
        go zero q z on = on (one_more f q) (unfold or_else in z)
        go (suc n) q z on =
            let w : ◌≡◌ {A = Reply Trace} (refused 31 place) (refused (suc n) (i + 1)) = unfold or_else in z in
            let s = same-refused w in
            (i, s.1, refused-at (omega arith) f (q ∙ sym s.0))

    told : (i : ℕ) → place ≡ i + 1 → BehindAt tr i → refused 31 place ≡ walk start m [] tr
    unfolding or_else
    told i q w =
        let h = w.inside in
        let k = passed _ ((refusal-decides (passing-sound w.passed) (at tr i).first).1 w.behind) in
        rw q (sym (walk-to tr start m i (omega arith) w.passed ∙ walk_at tr start m i h ∙ rw (rule-31 tr i w.others w.is-begin k)))

module _ (b : List ℕ) (place : ℕ) where
  abbrev next : Trace → Reply Trace
  next t = walk t.start t.events [] (records_in b t)

  behind : (t : Trace) → gives t ≡ frame_reply b → refused 31 place ≡ next t → RefusedBehind b place
  behind t e q =
      let (i, n, w) = found (records_in b t) t.start t.events place (length (records_in b t)) 0 (omega arith) (λ j l. absurd (omega arith)) (unfold past in q) in
      record { t = t; framed = e; position = i; numbered = n; there = w }

  go : (x : Reply Trace) → x ≡ frame_reply b → refused 31 place ≡ then x next → RefusedBehind b place
  go (refused n p) e q = absurd (frame-not b place (unfold then in q ∙ e))
  go (gives t) e q = behind t e (unfold then in q)

  there : refused 31 place ≡ read_reply b → RefusedBehind b place
  there e = go (frame_reply b) refl (unfold read_reply in e)

  back : RefusedBehind b place → refused 31 place ≡ read_reply b
  back r =
      let t = r.t in
      told (records_in b t) t.start t.events place r.position r.numbered r.there ∙ sym (unfold read_reply in then-given r.framed next)

pub refuses-behind : (b : List ℕ) → RefusesBehind b
refuses-behind b place = (there b place, back b place)
