-- Renaming events keeps the table and refusal 31. Assumes nothing.
use Prim.Native.Nat.{ℕ, zero, suc, ◌≤◌, ◌<◌}
use mathlib.Core.Path.{◌≡◌, refl, sym, ap, ◌∙◌, subst}
use mathlib.Core.Bool.{Bool, true, false, not, ◌&&◌, ◌||◌}
use mathlib.Core.Logic.{◌⊎◌, inl, inr}
use mathlib.Core.List.{List}
use native.Mathlib.Omega.{arith}
use lib.Dec.{T, eqb, leb}
use Rattle.records.specs.declared.Record.{Record}
use Rattle.records.specs.Records.{at, past, is_begin, is_join, begun}
use Rattle.slices.proofs.Tests.{both, or_left, or_right, eq→eqb, same}
use Rattle.records.specs.Kinds.{starts, same_link}
use Rattle.precedence.specs.Before.{Begins}
use Rattle.precedence.specs.Table.{table, missing, blocked, blocked_for}
use Rattle.precedence.specs.Sound.{Sound}
use Rattle.precedence.specs.Renamed.{Renamed}
use Rattle.precedence.proofs.Steps.{Puts, puts, put, New, kept, started, joined, own, linked, new, set, none}
use Rattle.precedence.proofs.Rows.{link-first, link-second, begins-later, begun-or-not, begins-begun, missing-is, target-begun}

-- tests that look at the kind alone
starts_by : (r s : Record) → r.kind ≡ s.kind → T (starts r) → T (starts s)
starts_by r s e h = subst (λ (k : ℕ). T (eqb k 3 || (leb 16 k && leb k 19))) e h

join_by : (r s : Record) → r.kind ≡ s.kind → T (is_join r) → T (is_join s)
join_by r s e h = subst (λ (k : ℕ). T (eqb k 4)) e h

begin-by : (r s : Record) → r.kind ≡ s.kind → T (is_begin r) → T (is_begin s)
begin-by r s e h = subst (λ (k : ℕ). T (eqb k 1)) e h

link-by : (r r' s s' : Record) → r.kind ≡ r'.kind → s.kind ≡ s'.kind → T (same_link r s) → T (same_link r' s')
unfolding same_link
link-by r r' s s' e q h =
    subst (λ (k : ℕ). T ((leb 16 r'.kind && leb r'.kind 19) && eqb r'.kind k)) q (subst (λ (k : ℕ). T ((leb 16 k && leb k 19) && eqb k s.kind)) e h)

true-not : (a : Bool) → T (not a) → T a → ⊥
true-not true h k = h
true-not false h k = k

module _ {f : ℕ → ℕ} {tr tr' : List Record} {m n : ℕ} (l : m ≤ n) (s : Sound tr m) (w : Renamed f tr tr' n) where
  up : {e i : ℕ} → i < m → Begins tr i e → Begins tr n e
  up k b = begins-later tr (omega arith) b

  second-of : (i : ℕ) → i < m → T (starts (at tr i)) → (at tr' i).second ≡ f (at tr i).second
  second-of i k a = w.seconds i (omega arith) (or_left (starts (at tr i)) (is_join (at tr i)) a)

  waited-of : (i : ℕ) → i < m → T (is_join (at tr i)) → (at tr' i).second ≡ f (at tr i).second
  waited-of i k a = w.seconds i (omega arith) (or_right (starts (at tr i)) (is_join (at tr i)) a)

  -- the two tables after i records
  abbrev Back : ℕ → Type 0
  Back i = (t u : ℕ) → Begins tr n t → Begins tr n u → T (table tr' i (f t) (f u)) → T (table tr i t u)

  abbrev Forth : ℕ → Type 0
  Forth i = (t u : ℕ) → Begins tr n t → Begins tr n u → T (table tr i t u) → T (table tr' i (f t) (f u))

  cast : (i : ℕ) {t u t' u' : ℕ} → t ≡ t' → u ≡ u' → T (table tr' i t u) → T (table tr' i t' u')
  cast i {u = u} {t' = t'} e q h = subst (λ (v : ℕ). T (table tr' i t' v)) q (subst (λ (v : ℕ). T (table tr' i v u)) e h)

  -- sends, there and here
  module _ (i x y : ℕ) (h : i ≤ m) (k : x < y) (j : y < i) where
    link-back : T (same_link (at tr' x) (at tr' y)) → T (same_link (at tr x) (at tr y))
    link-back c = link-by (at tr' x) (at tr x) (at tr' y) (at tr y) (w.kinds x (omega arith)) (w.kinds y (omega arith)) c

    link-forth : T (same_link (at tr x) (at tr y)) → T (same_link (at tr' x) (at tr' y))
    link-forth c = link-by (at tr x) (at tr' x) (at tr y) (at tr' y) (sym (w.kinds x (omega arith))) (sym (w.kinds y (omega arith))) c

    module _ (c : T (same_link (at tr x) (at tr y))) where
      first-begins : Begins tr n (at tr x).first
      first-begins = let z : x < m = omega arith in up z (s.starter_begun x z (link-first (at tr x) (at tr y) c))

      second-begins : Begins tr n (at tr y).first
      second-begins = let z : y < m = omega arith in up z (s.starter_begun y z (link-second (at tr x) (at tr y) c))

      senders-back : Back i → T (table tr' i (at tr' x).first (at tr' y).first) → T (table tr i (at tr x).first (at tr y).first)
      senders-back g p = g (at tr x).first (at tr y).first first-begins second-begins (cast i (w.firsts x (omega arith)) (w.firsts y (omega arith)) p)

      senders-forth : Forth i → T (table tr i (at tr x).first (at tr y).first) → T (table tr' i (at tr' x).first (at tr' y).first)
      senders-forth g p =
          cast i (sym (w.firsts x (omega arith))) (sym (w.firsts y (omega arith))) (g (at tr x).first (at tr y).first first-begins second-begins p)

      target-x : (at tr' x).second ≡ f (at tr x).second
      target-x = second-of x (omega arith) (link-first (at tr x) (at tr y) c)

      target-y : (at tr' y).second ≡ f (at tr y).second
      target-y = second-of y (omega arith) (link-second (at tr x) (at tr y) c)

  -- what a link puts e behind begins
  target-begins : (i x y : ℕ) → i < m → T (is_begin (at tr i)) → x < y → y < i → T (same_link (at tr x) (at tr y)) → (at tr y).second ≡ (at tr i).first
      → T (table tr i (at tr x).first (at tr y).first) → Begins tr n (at tr x).second
  target-begins i x y h a k j c q p = go (target-begun s i x y h a k j c q p)
    where
      go : ((at tr x).second ≡ (at tr i).first) ⊎ Begins tr i (at tr x).second → Begins tr n (at tr x).second
      go (inr b) = up h b
      go (inl e) = record { position = i; inside = omega arith; is-begin = a; of_event = sym e }

  mutual-step : (i : ℕ) → i < m → Back i × Forth i → Back (suc i) × Forth (suc i)
  mutual-step i h g = (λ t u b c p. back t u b c (new tr' i (f t) (f u) p), λ t u b c p. forth t u b c (new tr i t u p))
    where
      kind-is : (at tr' i).kind ≡ (at tr i).kind
      kind-is = w.kinds i (omega (arith, l))

      first-is : (at tr' i).first ≡ f (at tr i).first
      first-is = w.firsts i (omega (arith, l))

      back : (t u : ℕ) → Begins tr n t → Begins tr n u → New tr' i (f t) (f u) → T (table tr (suc i) t u)
      back t u b c (kept k) = set tr i t u (kept (g.0 t u b c k))
      back t u b c (started a e k) =
          let a' = starts_by (at tr' i) (at tr i) kind-is a in
          set tr i t u (started a' (sym (w.one-to-one u (at tr i).second c (sym e ∙ second-of i h a')))
          (g.0 t (at tr i).first b (up h (s.starter_begun i h a')) (cast i refl first-is k)))
      back t u b c (joined a e k) =
          let a' = join_by (at tr' i) (at tr i) kind-is a in
          set tr i t u (joined a' (sym (w.one-to-one u (at tr i).first c (sym e ∙ first-is)))
          (g.0 t (at tr i).second b (up h (s.waited_begun i h a')) (cast i refl (waited-of i h a') k)))
      back t u b c (own a e q) =
          set tr i t u (own (begin-by (at tr' i) (at tr i) kind-is a) (sym (w.one-to-one u (at tr i).first c (sym e ∙ first-is))) (w.one-to-one t u b q))
      back t u b c (linked a e p) =
          let a' = begin-by (at tr' i) (at tr i) kind-is a in
          let e' = w.one-to-one u (at tr i).first c (sym e ∙ first-is) in
          let x = p.x in
          let y = p.y in
          let k = p.earlier in
          let j = p.inside in
          let z : i ≤ m = omega arith in
          let d = link-back i x y z k j p.one_link in
          let q = senders-back i x y z k j d g.0 p.senders in
          let o = sym (w.one-to-one u (at tr y).second c (sym p.to ∙ target-y i x y z k j d)) in
          set tr i t u (linked a' (sym e') (record {
            x = x;
            y = y;
            earlier = k;
            inside = j;
            one_link = d;
            to = o;
            senders = q;
            passes = g.0 t (at tr x).second b (target-begins i x y h a' k j d (o ∙ e') q) (cast i refl (target-x i x y z k j d) p.passes);
          }))

      forth : (t u : ℕ) → Begins tr n t → Begins tr n u → New tr i t u → T (table tr' (suc i) (f t) (f u))
      forth t u b c (kept k) = set tr' i (f t) (f u) (kept (g.1 t u b c k))
      forth t u b c (started a e k) =
          set tr' i (f t) (f u) (started (starts_by (at tr i) (at tr' i) (sym kind-is) a) (second-of i h a ∙ ap f e)
          (cast i refl (sym first-is) (g.1 t (at tr i).first b (up h (s.starter_begun i h a)) k)))
      forth t u b c (joined a e k) =
          set tr' i (f t) (f u) (joined (join_by (at tr i) (at tr' i) (sym kind-is) a) (first-is ∙ ap f e)
          (cast i refl (sym (waited-of i h a)) (g.1 t (at tr i).second b (up h (s.waited_begun i h a)) k)))
      forth t u b c (own a e q) = set tr' i (f t) (f u) (own (begin-by (at tr i) (at tr' i) (sym kind-is) a) (first-is ∙ ap f e) (ap f q))
      forth t u b c (linked a e p) =
          let x = p.x in
          let y = p.y in
          let k = p.earlier in
          let j = p.inside in
          let d = p.one_link in
          let z : i ≤ m = omega arith in
          set tr' i (f t) (f u) (linked (begin-by (at tr i) (at tr' i) (sym kind-is) a) (first-is ∙ ap f e) (record {
            x = x;
            y = y;
            earlier = k;
            inside = j;
            one_link = link-forth i x y z k j d;
            to = target-y i x y z k j d ∙ ap f p.to;
            senders = senders-forth i x y z k j d g.1 p.senders;
            passes =
                cast i refl (sym (target-x i x y z k j d))
                (g.1 t (at tr x).second b (target-begins i x y h a k j d (p.to ∙ sym e) p.senders) p.passes);
          }))

  both_ways : (i : ℕ) → i ≤ m → Back i × Forth i
  both_ways zero h = (λ t u b c p. absurd (none tr' (f t) (f u) p), λ t u b c p. absurd (none tr t u p))
  both_ways (suc i) h = mutual-step i h (both_ways i (omega arith))

  -- the order of events that begin is kept
  pub renamed-table : (i t u : ℕ) → i ≤ m → Begins tr n t → Begins tr n u → table tr' i (f t) (f u) ≡ table tr i t u
  renamed-table i t u h b c = let g = both_ways i h in same (table tr' i (f t) (f u)) (table tr i t u) (g.0 t u b c) (g.1 t u b c)

  begins-back : (i v : ℕ) → i ≤ m → Begins tr' i (f v) → Begins tr i v
  begins-back i v h b =
      let k = b.inside in
      let j = b.position in
      let a = begin-by (at tr' j) (at tr j) (w.kinds j (omega arith)) b.is-begin in
      let c : Begins tr n (at tr j).first = record { position = j; inside = omega arith; is-begin = a; of_event = refl } in
      record { position = j; inside = k; is-begin = a; of_event = w.one-to-one (at tr j).first v c (sym (w.firsts j (omega arith)) ∙ b.of_event) }

  begins-forth : (i v : ℕ) → i ≤ m → Begins tr i v → Begins tr' i (f v)
  begins-forth i v h b =
      let k = b.inside in
      let j = b.position in
      let a = begin-by (at tr j) (at tr' j) (sym (w.kinds j (omega arith))) b.is-begin in
      record { position = j; inside = k; is-begin = a; of_event = w.firsts j (omega arith) ∙ ap f b.of_event }

  -- at a begin of an event that 31 may refuse
  module _ (h : m < n) (a : T (is_begin (at tr m))) where
    e : ℕ
    e = (at tr m).first

    e-begins : Begins tr n e
    unfolding e
    e-begins = record { position = m; inside = h; is-begin = a; of_event = refl }

    missing-back : (v : ℕ) → T (missing tr' m (f e) (f v)) → T (missing tr m e v)
    missing-back v p = go (begun-or-not tr v m)
      where
        q : T (not (eqb (f v) (f e))) × T (not (begun (f v) (past tr' m)))
        q = both (not (eqb (f v) (f e))) (not (begun (f v) (past tr' m))) p

        go : Begins tr m v ⊎ (begun v (past tr m) ≡ false) → T (missing tr m e v)
        go (inl b) = absurd (true-not (begun (f v) (past tr' m)) q.1 (subst T (sym (begins-begun tr' (f v) m (begins-forth m v (omega arith) b))) tt))
        go (inr z) = missing-is tr m e v (λ r. true-not (eqb (f v) (f e)) q.0 (eq→eqb (f v) (f e) (ap f r))) z

    missing-forth : (v : ℕ) → T (missing tr m e v) → T (missing tr' m (f e) (f v))
    missing-forth v p = go (begun-or-not tr' (f v) m)
      where
        q : T (not (eqb v e)) × T (not (begun v (past tr m)))
        q = both (not (eqb v e)) (not (begun v (past tr m))) p

        go : Begins tr' m (f v) ⊎ (begun (f v) (past tr' m) ≡ false) → T (missing tr' m (f e) (f v))
        go (inl b) = absurd (true-not (begun v (past tr m)) q.1 (subst T (sym (begins-begun tr v m (begins-back m v (omega arith) b))) tt))
        go (inr z) = missing-is tr' m (f e) (f v) (λ r. true-not (eqb v e) q.0 (eq→eqb v e (sym (w.one-to-one e v e-begins (sym r))))) z

    puts_back : Puts tr' (table tr' m) m (f e) (missing tr' m (f e)) → Puts tr (table tr m) m e (missing tr m e)
    puts_back p =
        let x = p.x in
        let y = p.y in
        let k = p.earlier in
        let j = p.inside in
        let z : m ≤ m = omega arith in
        let d = link-back m x y z k j p.one_link in
        record {
          x = x;
          y = y;
          earlier = k;
          inside = j;
          one_link = d;
          to = sym (w.one-to-one e (at tr y).second e-begins (sym p.to ∙ target-y m x y z k j d));
          senders = senders-back m x y z k j d (both_ways m z).0 p.senders;
          passes = missing-back (at tr x).second (subst (λ (v : ℕ). T (missing tr' m (f e) v)) (target-x m x y z k j d) p.passes);
        }

    puts-forth : Puts tr (table tr m) m e (missing tr m e) → Puts tr' (table tr' m) m (f e) (missing tr' m (f e))
    puts-forth p =
        let x = p.x in
        let y = p.y in
        let k = p.earlier in
        let j = p.inside in
        let z : m ≤ m = omega arith in
        let d = p.one_link in
        record {
          x = x;
          y = y;
          earlier = k;
          inside = j;
          one_link = link-forth m x y z k j d;
          to = target-y m x y z k j d ∙ ap f p.to;
          senders = senders-forth m x y z k j d (both_ways m z).1 p.senders;
          passes = subst (λ (v : ℕ). T (missing tr' m (f e) v)) (sym (target-x m x y z k j d)) (missing-forth (at tr x).second p.passes);
        }

    -- refusal 31 is kept
    pub renamed-blocked : blocked tr' m ≡ blocked tr m
    unfolding blocked_for e
    renamed-blocked =
        rw (w.firsts m h)
        (same _ _
        (λ p. put tr (table tr m) m e (missing tr m e) (puts_back (puts tr' (table tr' m) m (f e) (missing tr' m (f e)) p)))
        (λ p. put tr' (table tr' m) m (f e) (missing tr' m (f e)) (puts-forth (puts tr (table tr m) m e (missing tr m e) p))))
