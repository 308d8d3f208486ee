-- The laws of specs/Laws. Assumes nothing.
use Prim.Native.Nat.{ℕ, ◌≤◌, ◌<◌}
use mathlib.Core.Path.{◌≡◌, refl, sym, ap, ◌∙◌, subst}
use mathlib.Core.Bool.{Bool, true, false, not, ◌&&◌, ◌||◌}
use mathlib.Core.Logic.{◌≢◌, ◌⊎◌, inl, inr}
use mathlib.Core.List.{List}
use native.Mathlib.Omega.{arith}
use lib.Dec.{T, eqb, eqb→eq}
use lib.ListN.{length}
use Rattle.records.specs.declared.Record.{Record}
use Rattle.records.specs.Records.{at, past, begun}
use Rattle.slices.proofs.Tests.{both, and, either, or_left, or_right, eq→eqb, decide_eq}
use Rattle.records.specs.Kinds.{same_link}
use Rattle.precedence.specs.Before.{Begins, Before, same, start, join, behind, path, RecordBefore, across, within, HappensBefore, BlockedFor, Ruled}
use Rattle.precedence.specs.Before.{Link, starts_it, joins_it, behind_it}
use Rattle.precedence.specs.Table.{table, missing, blocked_for, happens_before}
use Rattle.precedence.specs.Sound.{Sound, Whole}
use Rattle.precedence.specs.Laws.{TableDecides, TestDecides, RefusalDecides, Settled, Antisymmetric, Forward, Least}
use Rattle.precedence.proofs.Steps.{puts, put}
use Rattle.precedence.proofs.Rows as rows
use Rattle.precedence.proofs.Rows.{link-first, link-second, begins-later, begins-begun, begun-begins, begun-or-not, missing-is, stays, final}
use Rattle.precedence.proofs.Exact as exact

-- a beginning of what is sound is sound
pub shorter : {tr : List Record} {m n : ℕ} → m ≤ n → Sound tr n → Sound tr m
shorter l s = record {
  begins_once = λ i j h k. s.begins_once i j (omega arith) (omega arith);
  starter_begun = λ i h. s.starter_begun i (omega arith);
  target_later = λ i h. s.target_later i (omega arith);
  waited_begun = λ i h. s.waited_begun i (omega arith);
  waiting_later = λ i h. s.waiting_later i (omega arith);
  unbroken = λ i j k a b h. s.unbroken i j k a b (omega arith);
  unblocked = λ i h. s.unblocked i (omega arith);
}

not-both : (a : Bool) → T (not a) → T a → ⊥
not-both true h k = h
not-both false h k = k

module _ {tr : List Record} {n : ℕ} (s : Sound tr n) where
  pub table-decides : TableDecides tr n
  table-decides = exact.decides s

  -- t itself, or it begins
  known : {t u : ℕ} → Before tr n t u → (t ≡ u) ⊎ Begins tr n t
  known (same e) = inl e
  known (start i l a e q b) = inr (subst (Begins tr n) e (exact.starter-begins s l a))
  known (join i l a e q) = inr (subst (Begins tr n) e (begins-later tr (omega arith) (s.waited_begun i l a)))
  known (behind i j l m c r e q f g) = inr f
  known {t} {u} (path {p = p} h k) = go (known h) (known k)
    where
      go : (t ≡ p) ⊎ Begins tr n t → (p ≡ u) ⊎ Begins tr n p → (t ≡ u) ⊎ Begins tr n t
      go (inr b) _ = inr b
      go (inl e) (inl q) = inl (e ∙ q)
      go (inl e) (inr b) = inr (subst (Begins tr n) (sym e) b)

  pub begins-order : {t u : ℕ} → Before tr n t u → (b : Begins tr n t) (c : Begins tr n u) → b.position ≤ c.position
  begins-order {t} {u} h b c = rows.forward s t u (exact.complete s h c) b c

  pub antisymmetric : Antisymmetric tr n
  antisymmetric t u h k = go (known h)
    where
      go : (t ≡ u) ⊎ Begins tr n t → t ≡ u
      go (inl e) = e
      go (inr b) =
          let c = exact.begins-back s k b in
          let x = begins-order h b c in
          let y = begins-order k c b in
          let e : b.position ≡ c.position = omega arith in
          sym b.of_event ∙ ap (λ (i : ℕ). (at tr i).first) e ∙ c.of_event

  pub forward : Forward tr n
  forward i j l m c h d = rows.apart s i j l m (exact.begins-back s h c) c d (exact.complete s h c)

  pub settled : (m : ℕ) → m ≤ n → Settled tr m n
  settled m l t u b =
      let w = shorter l s in
      let c = begins-later tr l b in
      let k = exact.sound s t u in
      (λ h. k (stays tr m n t u l (exact.complete w h b)) c, λ h. exact.sound w t u (final s m n t u l (omega arith) b (exact.complete s h c)) b)

  -- what the sends put behind what is not there
  refusal-says : (e : ℕ) → T (blocked_for tr n e) → BlockedFor tr n e
  unfolding blocked_for
  refusal-says e h =
      let p = puts tr (table tr n) n e (missing tr n e) h in
      let v = (at tr p.x).second in
      let m = both (not (eqb v e)) (not (begun v (past tr n))) p.passes in
      let k = p.inside in
      let l = p.earlier in
      record {
        x = p.x;
        y = p.y;
        x_inside = omega arith;
        y_inside = k;
        one_link = p.one_link;
        in_order =
            exact.record-told s n p.x p.y (exact.told s n (omega arith)) k (link-second (at tr p.x) (at tr p.y) p.one_link) l p.senders;
        to = p.to;
        another = λ q. not-both (eqb v e) m.0 (eq→eqb v e q);
        not_begun = λ b. not-both (begun v (past tr n)) m.1 (subst T (sym (begins-begun tr v n b)) tt);
      }

  refusal-finds : (e : ℕ) → BlockedFor tr n e → T (blocked_for tr n e)
  unfolding blocked_for
  refusal-finds e r = go (begun-or-not tr (at tr r.x).second n)
    where
      go : Begins tr n (at tr r.x).second ⊎ (begun (at tr r.x).second (past tr n) ≡ false) → T (blocked_for tr n e)
      go (inl b) = absurd (r.not_begun b)
      go (inr f) =
          let c = r.one_link in
          let a = link-first (at tr r.x) (at tr r.y) c in
          let b = link-second (at tr r.x) (at tr r.y) c in
          let p = exact.record-complete s r.in_order r.x_inside r.y_inside a b in
          put tr (table tr n) n e (missing tr n e) (record {
            x = r.x;
            y = r.y;
            earlier = p.0;
            inside = r.y_inside;
            one_link = c;
            to = r.to;
            senders = p.1;
            passes = missing-is tr n e (at tr r.x).second r.another f;
          })

  pub refusal-decides : (e : ℕ) → RefusalDecides tr n e
  refusal-decides e = (refusal-says e, refusal-finds e)

-- the order is least, with no more asked
module _ (tr : List Record) (n : ℕ) (R : ℕ → ℕ → Type 0) (w : Ruled tr n R) where
  at_both : {t u t' u' : ℕ} → t ≡ t' → u ≡ u' → R t u → R t' u'
  at_both {u = u} {t' = t'} e q h = subst (R t') q (subst (λ (v : ℕ). R v u) e h)

  abbrev Sends : ℕ → ℕ → Type 0
  Sends i j =
      i < n → j < n → T (same_link (at tr i) (at tr j)) → Begins tr n (at tr i).second → Begins tr n (at tr j).second → R (at tr i).second (at tr j).second

  mutual
    included : {t u : ℕ} → Before tr n t u → R t u
    included {t} (same e) = subst (R t) e (w.same_in t)
    included (start i l a e q b) = at_both e q (w.start_in i l a (subst (Begins tr n) (sym q) b))
    included (join i l a e q) = at_both e q (w.join_in i l a)
    included (behind i j l m c r e q f g) = at_both e q (sent r l m c (subst (Begins tr n) (sym e) f) (subst (Begins tr n) (sym q) g))
    included {t} {u} (path {p = p} h k) = w.path_in t p u (included h) (included k)

    sent : {i j : ℕ} → RecordBefore tr n i j → Sends i j
    sent {i} {j} (across d h) l m c f g = w.across_in i j l m c f g d (included h)
    sent {i} {j} (within e h) l m c f g = w.within_in i j l m c f g e h

pub least : (tr : List Record) (n : ℕ) → Least tr n
least tr n R w t u h = included tr n R w h

-- and the order itself has the rules
pub ruled : (tr : List Record) (n : ℕ) → Ruled tr n (Before tr n)
ruled tr n = record {
  same_in = λ t. same refl;
  path_in = λ t p u h k. path h k;
  start_in = λ i l a b. start i l a refl refl b;
  join_in = λ i l a. join i l a refl refl;
  across_in = λ i j l m c f g d h. behind i j l m c (across d h) refl refl f g;
  within_in = λ i j l m c f g e h. behind i j l m c (within e h) refl refl f g;
}

module _ {tr : List Record} (w : Whole tr) where
  abbrev n : ℕ
  n = length tr

  -- the end of what is ordered begins, unless it is the start
  ends : {t u : ℕ} → Before tr n t u → (t ≡ u) ⊎ Begins tr n u
  ends (same e) = inl e
  ends (start i l a e q b) = inr b
  ends (join i l a e q) = inr (subst (Begins tr n) q (w.all_begin i l))
  ends (behind i j l m c r e q f g) = inr g
  ends {t} {u} (path {p = p} h k) = go (ends h) (ends k)
    where
      go : (t ≡ p) ⊎ Begins tr n p → (p ≡ u) ⊎ Begins tr n u → (t ≡ u) ⊎ Begins tr n u
      go _ (inr b) = inr b
      go (inl e) (inl q) = inl (e ∙ q)
      go (inr b) (inl q) = inr (subst (Begins tr n) q b)

  pub test-sound : (t u : ℕ) → T (happens_before tr t u) → HappensBefore tr t u
  unfolding happens_before
  test-sound t u h = go (either (eqb t u) (begun u (past tr n) && table tr n t u) h)
    where
      go : T (eqb t u) ⊎ T (begun u (past tr n) && table tr n t u) → HappensBefore tr t u
      go (inl e) = same (eqb→eq t u e)
      go (inr k) =
          let p = both (begun u (past tr n)) (table tr n t u) k in
          exact.sound w.sound t u p.1 (begun-begins tr u n p.0)

  pub test-complete : (t u : ℕ) → HappensBefore tr t u → T (happens_before tr t u)
  unfolding happens_before
  test-complete t u h = go (ends h)
    where
      go : (t ≡ u) ⊎ Begins tr n u → T (eqb t u || (begun u (past tr n) && table tr n t u))
      go (inl e) = or_left (eqb t u) (begun u (past tr n) && table tr n t u) (eq→eqb t u e)
      go (inr b) =
          or_right (eqb t u) (begun u (past tr n) && table tr n t u)
          (and (begun u (past tr n)) (table tr n t u) (subst T (sym (begins-begun tr u n b)) tt) (exact.complete w.sound h b))

  pub test-decides : TestDecides tr
  test-decides t u = (test-sound t u, test-complete t u)

  -- the first direct link
  first-link : {t u : ℕ} → Before tr n t u → t ≢ u → (v : ℕ) × Link tr n t v × Before tr n v u
  first-link (same e) d = absurd (d e)
  first-link {t} {u} (start i l a e q b) d = (u, starts_it i l a e q b, same refl)
  first-link {t} {u} (join i l a e q) d = (u, joins_it i l a e q, same refl)
  first-link {t} {u} (behind i j l m c r e q f g) d = (u, behind_it i j l m c r e q f g d, same refl)
  first-link {t} {u} (path {p = p} h k) d = go (decide_eq t p) (first-link h) (first-link k)
    where
      go : (t ≡ p) ⊎ (t ≢ p) → (t ≢ p → (v : ℕ) × Link tr n t v × Before tr n v p) → (p ≢ u → (v : ℕ) × Link tr n p v × Before tr n v u)
          → (v : ℕ) × Link tr n t v × Before tr n v u
      go (inr x) f g = let r = f x in (r.0, r.1, path r.2 k)
      go (inl e) f g = let r = g (λ q. d (e ∙ q)) in (r.0, subst (λ (x : ℕ). Link tr n x r.0) (sym e) r.1, r.2)

  pub first : (t u : ℕ) → T (happens_before tr t u) → t ≢ u → (v : ℕ) × Link tr n t v × T (happens_before tr v u)
  first t u h d = let r = first-link (test-sound t u h) d in (r.0, r.1, test-complete r.0 u r.2)

  link-before : {t u : ℕ} → Link tr n t u → Before tr n t u
  link-before (starts_it i l a e q b) = start i l a e q b
  link-before (joins_it i l a e q) = join i l a e q
  link-before (behind_it i j l m c r e q f g d) = behind i j l m c r e q f g

  pub link-holds : {t u : ℕ} → Link tr n t u → T (happens_before tr t u)
  link-holds {t} {u} k = test-complete t u (link-before k)

  -- a link goes to another event action, which has a record
  pub link-differs : {t u : ℕ} → Link tr n t u → t ≢ u
  link-differs (starts_it i l a e q b) z = w.sound.target_later i l a (subst (Begins tr i) (e ∙ z ∙ sym q) (w.sound.starter_begun i l a))
  link-differs (joins_it i l a e q) z = w.sound.waiting_later i l a (subst (Begins tr i) (e ∙ z ∙ sym q) (w.sound.waited_begun i l a))
  link-differs (behind_it i j l m c r e q f g d) z = d z

  pub link-record : {t u : ℕ} → Link tr n t u → (y : ℕ) × (y < n) × ((at tr y).first ≡ u)
  link-record (starts_it i l a e q b) = (b.position, b.inside, b.of_event)
  link-record (joins_it i l a e q) = (i, l, q)
  link-record (behind_it i j l m c r e q f g d) = (g.position, g.inside, g.of_event)
