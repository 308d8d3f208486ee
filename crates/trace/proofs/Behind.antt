-- Refusal 31 beside 4 to 8: it applies to a begin that passes those, and what stands before the begin decides it.
-- Assumes nothing.
use Prim.Native.Nat.{ℕ, zero, suc, ◌<◌}
use mathlib.Core.Path.{◌≡◌, refl, sym, ap, ◌∙◌, subst}
use mathlib.Core.Bool.{Bool, true, false, cond, not, ◌&&◌, and-false, and-eq-true_iff}
use mathlib.Core.List.{List, [], ◌∷◌, ◌++◌}
use mathlib.Core.Logic.{◌≢◌, ◌⊎◌, inl, inr}
use native.Mathlib.Omega.{arith}
use native.Mathlib.Nat.{eq-or-lt_of_le, le_of_suc-le-suc}
use borrow.Author.Tests.{eqb-true}
use lib.Dec.{T, eqb}
use lib.ListN.{length, length-append, get_or-append}
use lib.Seq.{get_or-append_seam}
use Rattle.records.specs.declared.Record.{Record}
use Rattle.records.specs.Records.{no_record, at, past, is_begin, begun, ended}
use Rattle.records.proofs.Records.{past-length}
use Rattle.records.proofs.Positions.{decide}
use Rattle.slices.proofs.Tests.{passed, decide_eq}
use Rattle.precedence.specs.Table.{blocked_for, blocked}
use Rattle.precedence.proofs.Prefix.{blocked-same}
use Rattle.trace.specs.Place.{place}
use Rattle.trace.specs.Rule.{situation, owner, well_formed, misplaced, again, early, judge, in_turn, behind, rule}
use Rattle.trace.specs.Reply.{Reply, gives, demand, or_else, then}
use Rattle.trace.specs.Plain.{plain_rule}
use Rattle.trace.proofs.ReplyLaws.{stops}

-- the tests in turn, the fifth of them 31
abbrev faults : Bool → Bool → Bool → Bool → Bool → Bool → ℕ
faults x y z w v e = cond x 4 (cond y 5 (cond z 6 (cond w 7 (cond v 31 (cond e 8 0)))))

none-applies : (x y z w v e : Bool) → faults x y z w v e ≡ 0 → (faults x y z w false e ≡ 0) × (v ≡ false)
none-applies true y z w v e h = absurd (omega arith)
none-applies false true z w v e h = absurd (omega arith)
none-applies false false true w v e h = absurd (omega arith)
none-applies false false false true v e h = absurd (omega arith)
none-applies false false false false true e h = absurd (omega arith)
none-applies false false false false false e h = (h, refl)

another-applies : (x y z w v e : Bool) → (v ≡ true → e ≡ false) → (faults x y z w false e ≡ 0 → ⊥) → faults x y z w v e ≡ faults x y z w false e
another-applies true y z w v e d h = refl
another-applies false true z w v e d h = refl
another-applies false false true w v e d h = refl
another-applies false false false true v e d h = refl
another-applies false false false false true e d h = let q = d refl in absurd (h (rw q refl))
another-applies false false false false false e d h = refl

just-31 : (x y z w e : Bool) → faults x y z w false e ≡ 0 → faults x y z w true e ≡ 31
just-31 true y z w e h = absurd (omega arith)
just-31 false true z w e h = absurd (omega arith)
just-31 false false true w e h = absurd (omega arith)
just-31 false false false true e h = absurd (omega arith)
just-31 false false false false e h = refl

only-31 : (x y z w v e : Bool) → (v ≡ true → e ≡ false) → faults x y z w v e ≡ 31 → (faults x y z w false e ≡ 0) × (v ≡ true)
only-31 true y z w v e d h = absurd (omega arith)
only-31 false true z w v e d h = absurd (omega arith)
only-31 false false true w v e d h = absurd (omega arith)
only-31 false false false true v e d h = absurd (omega arith)
only-31 false false false false true e d h = let q = d refl in (rw q refl, refl)
only-31 false false false false false true d h = absurd (omega arith)
only-31 false false false false false false d h = absurd (omega arith)

-- a begin waits for nothing
begin-waits : (r : Record) (c h : Bool) → (is_begin r && h) ≡ true → early r c ≡ false
unfolding early
begin-waits r c h e = go (is_begin r) refl e
  where
    go : (b : Bool) → is_begin r ≡ b → (b && h) ≡ true → early r c ≡ false
    go true q z = let k = eqb-true r.kind 1 q in rw k refl
    go false q z = let o : ◌≡◌ {A = ℕ} 0 1 = cc in absurd (omega arith)

module _ (s o : ℕ) (r : Record) (a b c h : Bool) where
  abbrev x : Bool
  x = eqb (place s r.kind) 3

  plain-is : judge s o r a b c false ≡ faults x (not (well_formed r)) (misplaced s o r) (again r a b) false (early r c)
  unfolding judge
  plain-is = simp (and-false (is_begin r))

  pub judge-passes : judge s o r a b c h ≡ 0 → (judge s o r a b c false ≡ 0) × ((is_begin r && h) ≡ false)
  unfolding judge
  judge-passes e = let p = none-applies x (not (well_formed r)) (misplaced s o r) (again r a b) (is_begin r && h) (early r c) e in (plain-is ∙ p.0, p.1)

  pub judge-kept : (judge s o r a b c false ≡ 0 → ⊥) → judge s o r a b c h ≡ judge s o r a b c false
  unfolding judge
  judge-kept n =
      another-applies x (not (well_formed r)) (misplaced s o r) (again r a b) (is_begin r && h) (early r c) (begin-waits r c h) (λ z. n (plain-is ∙ z))
      ∙ sym plain-is

  pub judge-free : (is_begin r && h) ≡ false → judge s o r a b c h ≡ judge s o r a b c false
  unfolding judge
  judge-free e = simp e (sym plain-is)

  pub judge-31 : judge s o r a b c false ≡ 0 → (is_begin r && h) ≡ true → judge s o r a b c h ≡ 31
  unfolding judge
  judge-31 e k = simp k (just-31 x (not (well_formed r)) (misplaced s o r) (again r a b) (early r c) (sym plain-is ∙ e))

  pub judge-only-31 : judge s o r a b c h ≡ 31 → (judge s o r a b c false ≡ 0) × ((is_begin r && h) ≡ true)
  unfolding judge
  judge-only-31 e =
      let p = only-31 x (not (well_formed r)) (misplaced s o r) (again r a b) (is_begin r && h) (early r c) (begin-waits r c h) e in
      (plain-is ∙ p.0, p.1)

-- two answers to 31 that agree on a begin that passes 4 to 8
pub judge-alike : (s o : ℕ) (r : Record) (a b c h k : Bool) → (judge s o r a b c false ≡ 0 → is_begin r ≡ true → h ≡ k) → judge s o r a b c h ≡ judge s o r a b c k
judge-alike s o r a b c h k f = go (decide_eq (judge s o r a b c false) 0) (decide (is_begin r))
  where
    off : is_begin r ≡ false → (z : Bool) → (is_begin r && z) ≡ false
    off e z = rw e

    go : (judge s o r a b c false ≡ 0) ⊎ (judge s o r a b c false ≢ 0) → (is_begin r ≡ true) ⊎ (is_begin r ≡ false) → judge s o r a b c h ≡ judge s o r a b c k
    go (inr n) _ = judge-kept s o r a b c h n ∙ sym (judge-kept s o r a b c k n)
    go (inl e) (inr n) = judge-free s o r a b c h (off n h) ∙ sym (judge-free s o r a b c k (off n k))
    go (inl e) (inl b') = ap (judge s o r a b c) (f e b')

-- 31 after 4 to 8, for a begin that passes those
pub judge-last : (s o : ℕ) (r : Record) (a b c h : Bool) (p next : ℕ)
    → then (or_else (judge s o r a b c false) p (gives next)) (λ (x : ℕ). demand (not (is_begin r && h)) 31 p (gives x)) ≡ or_else (judge s o r a b c h) p (gives next)
judge-last s o r a b c h p next = go (decide_eq (judge s o r a b c false) 0) (decide (is_begin r && h))
  where
    last : Reply ℕ → Reply ℕ
    last x = then x (λ (y : ℕ). demand (not (is_begin r && h)) 31 p (gives y))

    go : (judge s o r a b c false ≡ 0) ⊎ (judge s o r a b c false ≢ 0) → ((is_begin r && h) ≡ true) ⊎ ((is_begin r && h) ≡ false)
        → last (or_else (judge s o r a b c false) p (gives next)) ≡ or_else (judge s o r a b c h) p (gives next)
    go (inr n) _ = kept (judge s o r a b c false) (judge s o r a b c h) n (judge-kept s o r a b c h n)
      where
        kept : (v w : ℕ) → v ≢ 0 → w ≡ v → last (or_else v p (gives next)) ≡ or_else w p (gives next)
        kept v w d e = rw (e, ← stops v p (gives next) d) (unfold then in refl)
    go (inl e) (inl t) = let q = judge-31 s o r a b c h e t in rw (e, t, q) (unfold then or_else demand in refl)
    go (inl e) (inr t) = let q = judge-free s o r a b c h t in rw (q, e, t) (unfold then or_else demand in refl)

module _ (tr : List Record) where
  in-turn-length : (n : ℕ) → length (in_turn (past tr n)) ≡ n
  unfolding in_turn past
  in-turn-length zero = refl
  in-turn-length (suc n) = length-append (in_turn (past tr n)) (at tr n ∷ []) ∙ (let e = in-turn-length n in omega arith)

  in-turn-at : (n x : ℕ) → x < n → at (in_turn (past tr n)) x ≡ at tr x
  unfolding in_turn past
  in-turn-at zero x l = absurd (omega arith)
  in-turn-at (suc n) x l = go (eq-or-lt_of_le (le_of_suc-le-suc l)) (in-turn-at n x)
    where
      go : (x ≡ n) ⊎ (x < n) → (x < n → at (in_turn (past tr n)) x ≡ at tr x) → at (in_turn (past tr n) ++ (at tr n ∷ [])) x ≡ at tr x
      go (inl e) f =
          let q : x ≡ length (in_turn (past tr n)) = e ∙ sym (in-turn-length n) in
          ap (at (in_turn (past tr n) ++ (at tr n ∷ []))) q ∙ get_or-append_seam (in_turn (past tr n)) (at tr n) [] no_record ∙ ap (at tr) (sym e)
      go (inr k) f = get_or-append (in_turn (past tr n)) (at tr n ∷ []) no_record x (let e = in-turn-length n in omega arith) ∙ f k

  -- what 31 asks of the records before position i, asked of the whole list
  pub behind-is : (i e : ℕ) → behind e (past tr i) ≡ blocked_for tr i e
  unfolding behind
  behind-is i e = rw (past-length tr i) (blocked-same (in_turn (past tr i)) tr i (in-turn-at i) e)

  module _ (i : ℕ) where
    abbrev before : List Record
    before = past tr i

    abbrev r : Record
    r = at tr i

    begin-free : (is_begin r && behind r.first before) ≡ false → T (is_begin r) → blocked tr i ≡ false
    begin-free e b = sym (behind-is i r.first) ∙ (rw (passed (is_begin r) b) at e)

    pub rule-passes : rule before r ≡ 0 → (plain_rule before r ≡ 0) × (T (is_begin r) → blocked tr i ≡ false)
    unfolding rule plain_rule
    rule-passes e =
        let p = judge-passes (situation before) (owner before) r (begun r.first before) (begun r.second before) (ended r.second before) (behind r.first before) e in
        (p.0, begin-free p.1)

    pub rule-kept : (plain_rule before r ≡ 0 → ⊥) → rule before r ≡ plain_rule before r
    unfolding rule plain_rule
    rule-kept n = judge-kept (situation before) (owner before) r _ _ _ (behind r.first before) n

    pub rule-free : (T (is_begin r) → blocked tr i ≡ false) → rule before r ≡ plain_rule before r
    unfolding rule plain_rule
    rule-free f = judge-free (situation before) (owner before) r _ _ _ (behind r.first before) (go (is_begin r) refl)
      where
        go : (b : Bool) → is_begin r ≡ b → (b && behind r.first before) ≡ false
        go true q = behind-is i r.first ∙ f (rw q tt)
        go false q = refl

    pub rule-31 : plain_rule before r ≡ 0 → T (is_begin r) → blocked tr i ≡ true → rule before r ≡ 31
    unfolding rule plain_rule
    rule-31 e b k =
        judge-31 (situation before) (owner before) r _ _ _ (behind r.first before) e (rw (passed (is_begin r) b) (behind-is i r.first ∙ k))

    -- and 31 says so
    pub rule-only-31 : rule before r ≡ 31 → (plain_rule before r ≡ 0) × T (is_begin r) × (blocked tr i ≡ true)
    unfolding rule plain_rule
    rule-only-31 e =
        let p = judge-only-31 (situation before) (owner before) r (begun r.first before) (begun r.second before) (ended r.second before) (behind r.first before) e in
        let q = (and-eq-true_iff (is_begin r) (behind r.first before)).0 p.1 in
        (p.0, subst T (sym q.0) tt, sym (behind-is i r.first) ∙ q.1)
