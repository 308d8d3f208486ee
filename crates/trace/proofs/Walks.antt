-- The walk with 31 beside the walk by 4 to 8: of the refusal that the latter finds and the first begin that 31 refuses the earlier one stands.
-- Assumes nothing.
use Prim.Native.Nat.{ℕ, zero, suc, ◌+◌, ◌<◌, ◌≤◌}
use mathlib.Core.Path.{◌≡◌, refl, sym, ap, ◌∙◌, subst}
use mathlib.Core.Bool.{true, false, ◌||◌}
use mathlib.Core.List.{List, []}
use mathlib.Core.Logic.{◌⊎◌, inl, inr}
use native.Mathlib.Omega.{arith}
use native.Mathlib.Nat.{eq-or-lt_of_le, le_of_suc-le-suc}
use lib.Dec.{T, eqb}
use lib.ListN.{length, drop, drop_of_length-le}
use lib.Seq.{drop-cons}
use Rattle.records.specs.declared.Record.{Record}
use Rattle.records.specs.declared.Trace.{Trace}
use Rattle.records.specs.Records.{no_record, at, past, is_begin}
use Rattle.records.specs.Kinds.{is_send, same_link, has_send}
use Rattle.records.proofs.Records.{past-length}
use Rattle.records.proofs.Positions.{lt-or-ge}
use Rattle.slices.proofs.Tests.{both, or_left, or_right, failed}
use Rattle.precedence.specs.Table.{table, missing, blocked_for, blocked}
use Rattle.precedence.proofs.Steps.{puts}
use Rattle.trace.specs.Rule.{rule}
use Rattle.trace.specs.Reply.{refused, gives, or_else}
use Rattle.trace.specs.Reading.{closing, walk}
use Rattle.trace.specs.Plain.{plain_rule, plain_walk, Passed}
use Rattle.trace.proofs.ReplyLaws.{stops, not-both, passed, same-given}
use Rattle.trace.proofs.Behind.{rule-kept, rule-free, rule-31}

-- a record in the past
sent-before : (tr : List Record) (n x : ℕ) → x < n → T (is_send (at tr x)) → T (has_send (past tr n))
unfolding has_send past
sent-before tr zero x l h = absurd (omega arith)
sent-before tr (suc n) x l h = go (eq-or-lt_of_le (le_of_suc-le-suc l)) (sent-before tr n x)
  where
    go : (x ≡ n) ⊎ (x < n) → (x < n → T (is_send (at tr x)) → T (has_send (past tr n))) → T (is_send (at tr n) || has_send (past tr n))
    go (inl e) f = or_left (is_send (at tr n)) (has_send (past tr n)) (subst (λ (z : ℕ). T (is_send (at tr z))) e h)
    go (inr k) f = or_right (is_send (at tr n)) (has_send (past tr n)) (f k h)

-- 31 refuses no begin among the first n records
abbrev pub Free : List Record → ℕ → Type 0
Free tr n = (i : ℕ) → i < n → T (is_begin (at tr i)) → blocked tr i ≡ false

-- without sends no event is put behind another
pub unsent-free : (tr : List Record) (n : ℕ) → has_send (past tr n) ≡ false → Free tr n
unfolding blocked_for same_link
unsent-free tr n e i h b =
    failed (blocked tr i) (λ k.
    let p = puts tr (table tr i) i (at tr i).first (missing tr i (at tr i).first) k in
    let y = p.inside in
    let x = p.earlier in
    let s = (both (is_send (at tr p.x)) (eqb (at tr p.x).kind (at tr p.y).kind) p.one_link).0 in
    subst T e (sent-before tr n p.x (omega arith) s))

module _ (tr : List Record) (start m : ℕ) where
  -- one turn
  pub walk_at : (i : ℕ) → i < length tr
      → walk start m (past tr i) (drop i tr) ≡ or_else (rule (past tr i) (at tr i)) (i + 1) (walk start m (past tr (suc i)) (drop (suc i) tr))
  unfolding walk past
  walk_at i h = rw (drop-cons tr i no_record h, past-length tr i)

  plain_at : (i : ℕ) → i < length tr
      → plain_walk start m (past tr i) (drop i tr) ≡ or_else (plain_rule (past tr i) (at tr i)) (i + 1) (plain_walk start m (past tr (suc i)) (drop (suc i) tr))
  unfolding plain_walk past
  plain_at i h = rw (drop-cons tr i no_record h, past-length tr i)

  -- past the records that pass
  pub walk-to : (n : ℕ) → n ≤ length tr → ((i : ℕ) → i < n → rule (past tr i) (at tr i) ≡ 0) → walk start m [] tr ≡ walk start m (past tr n) (drop n tr)
  unfolding past or_else
  walk-to zero l f = refl
  walk-to (suc n) l f = walk-to n (omega arith) (λ i h. f i (omega arith)) ∙ walk_at n l ∙ rw (f n (omega arith))

  plain-to : (n : ℕ) → n ≤ length tr → ((i : ℕ) → i < n → plain_rule (past tr i) (at tr i) ≡ 0)
      → plain_walk start m [] tr ≡ plain_walk start m (past tr n) (drop n tr)
  unfolding past or_else
  plain-to zero l f = refl
  plain-to (suc n) l f = plain-to n (omega arith) (λ i h. f i (omega arith)) ∙ plain_at n l ∙ rw (f n (omega arith))

  module _ {n : ℕ} (p : Passed tr n) where
    free-passes : (k : ℕ) → k ≤ n → Free tr k → (i : ℕ) → i < k → rule (past tr i) (at tr i) ≡ 0
    free-passes k l f i h = rule-free tr i (f i h) ∙ p.each i (omega arith)

    -- there both walks end alike
    ends-alike : (n < length tr) ⊎ (length tr ≤ n) → walk start m (past tr n) (drop n tr) ≡ plain_walk start m (past tr n) (drop n tr)
    unfolding walk plain_walk
    ends-alike (inl h) =
        let k = plain_rule (past tr n) (at tr n) in
        walk_at n h
        ∙ ap (λ (z : ℕ). or_else z (n + 1) (walk start m (past tr (suc n)) (drop (suc n) tr))) (rule-kept tr n (p.next h))
        ∙ sym (stops k (n + 1) _ (p.next h))
        ∙ stops k (n + 1) _ (p.next h)
        ∙ sym (plain_at n h)
    ends-alike (inr h) = rw (drop_of_length-le tr {i = n} h)

    -- where 31 refuses no begin of those that pass
    pub free_walk : Free tr n → walk start m [] tr ≡ plain_walk start m [] tr
    free_walk f =
        let l = p.within in
        walk-to n l (free-passes n (omega arith) f) ∙ ends-alike (lt-or-ge n (length tr)) ∙ sym (plain-to n l p.each)

    -- where it refuses one
    pub blocked-walk : (k : ℕ) → k < n → Free tr k → T (is_begin (at tr k)) → blocked tr k ≡ true → refused 31 (k + 1) ≡ walk start m [] tr
    unfolding or_else
    blocked-walk k h f b e =
        let l = p.within in
        sym (walk-to k (omega arith) (free-passes k (omega arith) f) ∙ walk_at k (omega arith) ∙ rw (rule-31 tr k (p.each k h) b e))

    -- an accepted walk by 4 to 8 passes all records, and tells whether there is a send
    abbrev Told : Trace → Type 0
    Told t = (n ≡ length tr) × (has_send (past tr n) ≡ t.sends)

    pub plain-told : (t : Trace) → gives t ≡ plain_walk start m [] tr → Told t
    unfolding plain_walk closing
    plain-told t e = go (lt-or-ge n (length tr))
      where
        all : gives t ≡ plain_walk start m (past tr n) (drop n tr)
        all = e ∙ plain-to n p.within p.each

        go : (n < length tr) ⊎ (length tr ≤ n) → Told t
        go (inl h) =
            absurd (not-both t (plain_rule (past tr n) (at tr n)) (n + 1) (all ∙ plain_at n h ∙ sym (stops (plain_rule (past tr n) (at tr n)) (n + 1) _ (p.next h))))
        go (inr h) =
            let l = p.within in
            let c1 = passed _ _ _ _ t (rw (drop_of_length-le tr {i = n} h) at all) in
            let c2 = passed _ _ _ _ t c1.1 in
            (omega arith, sym (ap (λ (x : Trace). x.sends) (same-given c2.1)))
