-- Sound record by record. Assumes nothing.
use Prim.Native.Nat.{ℕ, zero, suc, ◌-◌, ◌≤◌, ◌<◌}
use mathlib.Core.Path.{◌≡◌, sym, ap, ◌∙◌, subst}
use mathlib.Core.Bool.{true, false}
use mathlib.Core.Logic.{◌⊎◌, inl, inr}
use mathlib.Core.List.{List}
use native.Mathlib.Omega.{arith}
use native.Mathlib.Nat.{not-suc-le-zero, eq-or-lt_of_le, le_of_suc-le-suc}
use lib.Dec.{T}
use Rattle.records.specs.declared.Record.{Record}
use Rattle.records.specs.Records.{at, past, is_begin, is_join, begun}
use Rattle.records.proofs.Positions.{true-not-false}
use Rattle.records.specs.Kinds.{starts}
use Rattle.precedence.specs.Before.{Begins}
use Rattle.precedence.specs.Table.{blocked}
use Rattle.precedence.specs.Sound.{Sound, Next}
use Rattle.precedence.proofs.Rows.{begins-begun, begun-begins}

pub sound-zero : (tr : List Record) → Sound tr 0
sound-zero tr = record {
  begins_once = λ i j h. absurd (not-suc-le-zero h);
  starter_begun = λ i h. absurd (not-suc-le-zero h);
  target_later = λ i h. absurd (not-suc-le-zero h);
  waited_begun = λ i h. absurd (not-suc-le-zero h);
  waiting_later = λ i h. absurd (not-suc-le-zero h);
  unbroken = λ i j k a b h. absurd (not-suc-le-zero h);
  unblocked = λ i h. absurd (not-suc-le-zero h);
}

module _ (tr : List Record) (n : ℕ) where
  -- what holds below n and at n holds below n + 1
  one_more : (P : ℕ → Type 0) → ((i : ℕ) → i < n → P i) → P n → (i : ℕ) → i < suc n → P i
  one_more P f p i h = go (eq-or-lt_of_le (le_of_suc-le-suc h))
    where
      go : (i ≡ n) ⊎ (i < n) → P i
      go (inl e) = subst P (sym e) p
      go (inr l) = f i l

  not_yet : (e : ℕ) → begun e (past tr n) ≡ false → Begins tr n e → ⊥
  not_yet e h b = true-not-false (begins-begun tr e n b) h

  already : (e : ℕ) → begun e (past tr n) ≡ true → Begins tr n e
  already e h = begun-begins tr e n (subst T (sym h) tt)

  module _ (s : Sound tr n) (x : Next tr n) where
    once : (i j : ℕ) → i < suc n → j < suc n → T (is_begin (at tr i)) → T (is_begin (at tr j)) → (at tr i).first ≡ (at tr j).first → i ≡ j
    once i j h k a b e = go (eq-or-lt_of_le (le_of_suc-le-suc h)) (eq-or-lt_of_le (le_of_suc-le-suc k))
      where
        again : (i j : ℕ) → i ≡ n → j < n → T (is_begin (at tr i)) → T (is_begin (at tr j)) → (at tr i).first ≡ (at tr j).first → ⊥
        again i j q l a b e =
            not_yet (at tr n).first (x.begin_fresh (subst (λ (z : ℕ). T (is_begin (at tr z))) q a))
            (record { position = j; inside = l; is-begin = b; of_event = sym e ∙ ap (λ (z : ℕ). (at tr z).first) q })

        go : (i ≡ n) ⊎ (i < n) → (j ≡ n) ⊎ (j < n) → i ≡ j
        go (inl q) (inl r) = q ∙ sym r
        go (inl q) (inr l) = absurd (again i j q l a b e)
        go (inr l) (inl q) = absurd (again j i q l b a (sym e))
        go (inr l) (inr m) = s.begins_once i j l m a b e

    whole : (i j k : ℕ) → i ≤ j → j ≤ k → k < suc n → (at tr i).first ≡ (at tr k).first → (at tr j).first ≡ (at tr i).first
    whole i j k a b h e = go (eq-or-lt_of_le (le_of_suc-le-suc h))
      where
        go : (k ≡ n) ⊎ (k < n) → (at tr j).first ≡ (at tr i).first
        go (inr l) = s.unbroken i j k a b l e
        go (inl q) = by (eq-or-lt_of_le b)
          where
            by : (j ≡ k) ⊎ (j < k) → (at tr j).first ≡ (at tr i).first
            by (inl z) = ap (λ (y : ℕ). (at tr y).first) z ∙ sym e
            by (inr z) =
                let f : (at tr i).first ≡ (at tr n).first = e ∙ ap (λ (y : ℕ). (at tr y).first) q in
                s.unbroken i j (n - 1) a (omega arith) (omega arith) (f ∙ sym (x.together i (omega arith) f))

    pub sound-next : Sound tr (suc n)
    sound-next = record {
      begins_once = once;
      starter_begun = one_more (λ i. T (starts (at tr i)) → Begins tr i (at tr i).first) s.starter_begun (λ a. already (at tr n).first (x.running a));
      target_later =
          one_more (λ i. T (starts (at tr i)) → Begins tr i (at tr i).second → ⊥) s.target_later (λ a. not_yet (at tr n).second (x.target_fresh a));
      waited_begun = one_more (λ i. T (is_join (at tr i)) → Begins tr i (at tr i).second) s.waited_begun (λ a. already (at tr n).second (x.waited a));
      waiting_later =
          one_more (λ i. T (is_join (at tr i)) → Begins tr i (at tr i).first → ⊥) s.waiting_later (λ a. not_yet (at tr n).first (x.join_fresh a));
      unbroken = whole;
      unblocked = one_more (λ i. T (is_begin (at tr i)) → blocked tr i ≡ false) s.unblocked x.free;
    }

pub sound-all : (tr : List Record) (n : ℕ) → ((i : ℕ) → i < n → Next tr i) → Sound tr n
sound-all tr zero f = sound-zero tr
sound-all tr (suc n) f = sound-next tr n (sound-all tr n (λ i l. f i (omega arith))) (f n (omega arith))
