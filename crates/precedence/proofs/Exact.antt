-- The table says happens-before. Assumes nothing.
use Prim.Native.Nat.{ℕ, zero, suc, ◌≤◌, ◌<◌}
use mathlib.Core.Path.{◌≡◌, refl, sym, ◌∙◌, subst}
use mathlib.Core.Logic.{◌≢◌, ◌⊎◌, inl, inr, ◌↔◌}
use mathlib.Core.List.{List}
use native.Mathlib.Omega.{arith}
use lib.Dec.{T}
use Rattle.records.specs.declared.Record.{Record}
use Rattle.records.specs.Records.{at, is_begin}
use Rattle.slices.proofs.Tests.{decide_eq}
use Rattle.records.specs.Kinds.{starts}
use Rattle.precedence.specs.Before.{Begins, Before, same, start, join, behind, path, RecordBefore, across, within}
use Rattle.precedence.specs.Table.{table}
use Rattle.precedence.specs.Sound.{Sound}
use Rattle.precedence.proofs.Steps.{Puts, New, kept, started, joined, own, linked, new, none}
use Rattle.precedence.proofs.Rows.{link-first, link-second, begins-later, target-begun, reflexive, transitive}
use Rattle.precedence.proofs.Rows.{start-closed, join-closed, link-closed, apart}

module _ {tr : List Record} {n : ℕ} (s : Sound tr n) where
  begins-up : {e i : ℕ} → i < n → Begins tr i e → Begins tr n e
  begins-up l b = begins-later tr (omega arith) b

  -- the first of a fork or send begins
  pub starter-begins : {i : ℕ} → i < n → T (starts (at tr i)) → Begins tr n (at tr i).first
  starter-begins l a = begins-up l (s.starter_begun _ l a)

  -- each bit is an order
  abbrev pub Told : ℕ → Type 0
  Told i = (t u : ℕ) → T (table tr i t u) → Begins tr n u → Before tr n t u

  pub record-told : (i x y : ℕ) → Told i → y < n → T (starts (at tr y)) → x < y → T (table tr i (at tr x).first (at tr y).first) → RecordBefore tr n x y
  record-told i x y f l a m h = go (decide_eq (at tr x).first (at tr y).first)
    where
      go : ((at tr x).first ≡ (at tr y).first) ⊎ ((at tr x).first ≢ (at tr y).first) → RecordBefore tr n x y
      go (inl e) = within e m
      go (inr d) = across d (f (at tr x).first (at tr y).first h (starter-begins l a))

  link-told : (i t u : ℕ) → Told i → i < n → T (is_begin (at tr i)) → (at tr i).first ≡ u → Puts tr (table tr i) i u (table tr i t) → Begins tr n u
      → Before tr n t u
  link-told i t u f l a e p b =
      let k = p.inside in
      let m = p.earlier in
      let v = (at tr p.x).second in
      let g = target-begins (target-begun s i p.x p.y l a m k p.one_link (p.to ∙ sym e) p.senders) in
      path (f t v p.passes g)
      (behind p.x p.y (omega arith) (omega arith) p.one_link
      (record-told i p.x p.y f (omega arith) (link-second (at tr p.x) (at tr p.y) p.one_link) m p.senders)
      refl p.to g b)
    where
      target-begins : ((at tr p.x).second ≡ (at tr i).first) ⊎ Begins tr i (at tr p.x).second → Begins tr n (at tr p.x).second
      target-begins (inl q) = subst (Begins tr n) (sym (q ∙ e)) b
      target-begins (inr c) = begins-up l c

  pub told : (i : ℕ) → i ≤ n → Told i
  told zero l t u h b = absurd (none tr t u h)
  told (suc i) l t u h b = go (new tr i t u h) (told i (omega arith))
    where
      go : New tr i t u → Told i → Before tr n t u
      go (kept k) f = f t u k b
      go (started a e k) f = path (f t (at tr i).first k (starter-begins l a)) (start i l a refl e b)
      go (joined a e k) f = path (f t (at tr i).second k (begins-up l (s.waited_begun i l a))) (join i l a refl e)
      go (own a e q) f = same q
      go (linked a e p) f = link-told i t u f l a e p b

  pub sound : (t u : ℕ) → T (table tr n t u) → Begins tr n u → Before tr n t u
  sound t u h b = told n (omega arith) t u h b

  -- what happens before an event that begins begins
  pub begins-back : {t u : ℕ} → Before tr n t u → Begins tr n u → Begins tr n t
  begins-back (same e) b = subst (Begins tr n) (sym e) b
  begins-back (start i l a e q c) b = subst (Begins tr n) e (starter-begins l a)
  begins-back (join i l a e q) b = subst (Begins tr n) e (begins-up l (s.waited_begun i l a))
  begins-back (behind i j l m c r e q f g) b = f
  begins-back (path h k) b = begins-back h (begins-back k b)

  at_both : {t u t' u' : ℕ} → t ≡ t' → u ≡ u' → T (table tr n t u) → T (table tr n t' u')
  at_both {u = u} {t' = t'} e q h = subst (λ (v : ℕ). T (table tr n t' v)) q (subst (λ (v : ℕ). T (table tr n v u)) e h)

  -- each order is a bit
  mutual
    pub complete : {t u : ℕ} → Before tr n t u → Begins tr n u → T (table tr n t u)
    complete {u = u} (same e) b = subst (λ (v : ℕ). T (table tr n v u)) (sym e) (reflexive s n u b)
    complete (start i l a e q c) b = at_both e q (start-closed s i l a)
    complete (join i l a e q) b = at_both e q (join-closed s i l a)
    complete (behind i j l m c r e q f g) b =
        let p = record-complete r l m (link-first (at tr i) (at tr j) c) (link-second (at tr i) (at tr j) c) in
        at_both e q (link-closed s i j p.0 m c p.1 (subst (Begins tr n) (sym q) b))
    complete {t} {u} (path {p = p} h k) b = transitive s n t p u (omega arith) (complete h (begins-back k b)) (complete k b)

    pub record-complete : {i j : ℕ} → RecordBefore tr n i j → i < n → j < n → T (starts (at tr i)) → T (starts (at tr j))
        → (i < j) × T (table tr n (at tr i).first (at tr j).first)
    record-complete {i} {j} (across d h) l m a c = let k = complete h (starter-begins m c) in (apart s i j l m (starter-begins l a) (starter-begins m c) d k, k)
    record-complete {i} {j} (within e h) l m a c =
        (h, subst (λ (v : ℕ). T (table tr n v (at tr j).first)) (sym e) (reflexive s n (at tr j).first (starter-begins m c)))

  pub decides : (t u : ℕ) → Begins tr n u → T (table tr n t u) ↔ Before tr n t u
  decides t u b = (λ h. sound t u h b, λ h. complete h b)
