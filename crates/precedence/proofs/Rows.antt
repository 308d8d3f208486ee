-- The rows of the table: begun events only, final from the begin on, reflexive, closed downwards, closed under forks, sends, joins and the link rule.
-- Assumes nothing.
use Prim.Native.Nat.{ℕ, zero, suc, ◌+◌, ◌-◌, ◌≤◌, ◌<◌}
use mathlib.Core.Path.{◌≡◌, refl, sym, ◌∙◌, subst}
use mathlib.Core.Bool.{true, false, ◌&&◌}
use mathlib.Core.Logic.{◌≢◌, ◌⊎◌, inl, inr}
use mathlib.Core.List.{List}
use native.Mathlib.Omega.{arith}
use borrow.Author.Tests.{ne_eqb}
use lib.Dec.{T, eqb, leb, eqb→eq}
use Rattle.records.specs.declared.Record.{Record}
use Rattle.records.specs.Records.{at, past, is_begin, is_fork, is_join, has, begun}
use Rattle.records.proofs.Positions as positions
use Rattle.records.proofs.Positions.{lt-or-ge}
use Rattle.slices.proofs.Tests.{both, either, or_right, decide_eq, passed}
use Rattle.records.specs.Kinds.{is_send, starts, same_link}
use Rattle.precedence.specs.Before.{Begins}
use Rattle.precedence.specs.Table.{table, missing, blocked, blocked_for}
use Rattle.precedence.specs.Sound.{Sound}
use Rattle.precedence.proofs.Steps.{put, New, kept, started, joined, own, linked, new, set, none}

-- two sends on one link
pub link-first : (r s : Record) → T (same_link r s) → T (starts r)
unfolding same_link
link-first r s h = or_right (is_fork r) (is_send r) (both (is_send r) (eqb r.kind s.kind) h).0

pub link-second : (r s : Record) → T (same_link r s) → T (starts s)
unfolding same_link
link-second r s h =
    let p = both (is_send r) (eqb r.kind s.kind) h in
    or_right (is_fork s) (is_send s) (subst (λ (k : ℕ). T (leb 16 k && leb k 19)) (eqb→eq r.kind s.kind p.1) p.0)

-- a record that starts is no begin
pub begin-no-fork : (r : Record) → T (is_begin r) → T (starts r) → ⊥
begin-no-fork r b s = subst (λ (k : ℕ). T (eqb k 3) ⊎ T (leb 16 k && leb k 19) → ⊥) (sym (eqb→eq r.kind 1 b)) go (either (is_fork r) (is_send r) s)
  where
    go : T (eqb 1 3) ⊎ T (leb 16 1 && leb 1 19) → ⊥
    go (inl h) = h
    go (inr h) = h

pub begin-no-join : (r : Record) → T (is_begin r) → T (is_join r) → ⊥
begin-no-join r b j = subst (λ (k : ℕ). T (eqb k 4) → ⊥) (sym (eqb→eq r.kind 1 b)) (λ h. h) j

module _ (tr : List Record) where
  -- what has begun has begun later
  pub begins-later : {e i j : ℕ} → i ≤ j → Begins tr i e → Begins tr j e
  begins-later l b = let k = b.inside in record { position = b.position; inside = omega arith; is-begin = b.is-begin; of_event = b.of_event }

  pub begins-here : {e i : ℕ} → T (is_begin (at tr i)) → (at tr i).first ≡ e → Begins tr (suc i) e
  begins-here {i = i} b q = record { position = i; inside = omega arith; is-begin = b; of_event = q }

  -- the reader's test for it
  pub begun-begins : (e i : ℕ) → T (begun e (past tr i)) → Begins tr i e
  unfolding begun
  begun-begins e i h =
      let f = positions.has-found tr is_begin e i (passed (has is_begin e (past tr i)) h) in
      record { position = f.at_position; inside = f.earlier; is-begin = subst T (sym f.passes) tt; of_event = f.event }

  pub begins-begun : (e i : ℕ) → Begins tr i e → begun e (past tr i) ≡ true
  unfolding begun
  begins-begun e i b = positions.has-intro tr is_begin e i b.position b.inside (passed (is_begin (at tr b.position)) b.is-begin) b.of_event

  pub begun-or-not : (e i : ℕ) → Begins tr i e ⊎ (begun e (past tr i) ≡ false)
  begun-or-not e i = go (positions.decide (begun e (past tr i)))
    where
      go : (begun e (past tr i) ≡ true) ⊎ (begun e (past tr i) ≡ false) → Begins tr i e ⊎ (begun e (past tr i) ≡ false)
      go (inl h) = inl (begun-begins e i (subst T (sym h) tt))
      go (inr h) = inr h

  pub missing-is : (i e v : ℕ) → v ≢ e → begun v (past tr i) ≡ false → T (missing tr i e v)
  missing-is i e v d f = rw (ne_eqb v e d, f) tt

  -- bits stay
  stays_by : (d i t u : ℕ) → T (table tr i t u) → T (table tr (i + d) t u)
  stays_by zero i t u h = let e : i + 0 ≡ i = omega arith in rw e h
  stays_by (suc d) i t u h = let e : i + suc d ≡ suc (i + d) = omega arith in rw e (set tr (i + d) t u (kept (stays_by d i t u h)))

  pub stays : (i j t u : ℕ) → i ≤ j → T (table tr i t u) → T (table tr j t u)
  stays i j t u l h = let e : i + (j - i) ≡ j = omega arith in rw e at (stays_by (j - i) i t u h)

module _ {tr : List Record} {n : ℕ} (s : Sound tr n) where
  -- one begin: not before it
  pub not-before : {e i : ℕ} → i < n → T (is_begin (at tr i)) → (at tr i).first ≡ e → Begins tr i e → ⊥
  not-before {e} {i} l b q f =
      let k = f.inside in
      omega (arith, s.begins_once f.position i (omega arith) l f.is-begin b (f.of_event ∙ sym q))

  pub one-begin : {e i j : ℕ} (b : Begins tr i e) (c : Begins tr j e) → i ≤ n → j ≤ n → b.position ≡ c.position
  one-begin b c l m =
      let x = b.inside in
      let y = c.inside in
      s.begins_once b.position c.position (omega arith) (omega arith) b.is-begin c.is-begin (b.of_event ∙ sym c.of_event)

  -- rows hold begun events only
  pub begun-only : (i t u : ℕ) → i ≤ n → T (table tr i t u) → Begins tr i t
  begun-only zero t u l h = absurd (none tr t u h)
  begun-only (suc i) t u l h = go (new tr i t u h) (λ v. begun-only i t v (omega arith))
    where
      up : Begins tr i t → Begins tr (suc i) t
      up = begins-later tr (omega arith)

      go : New tr i t u → ((v : ℕ) → T (table tr i t v) → Begins tr i t) → Begins tr (suc i) t
      go (kept k) f = up (f u k)
      go (started a e k) f = up (f (at tr i).first k)
      go (joined a e k) f = up (f (at tr i).second k)
      go (own a e q) f = begins-here tr a (e ∙ sym q)
      go (linked a e p) f = up (f (at tr p.x).second p.passes)

  -- the row of a begun event never changes
  final-step : (i t u : ℕ) → i < n → Begins tr i u → T (table tr (suc i) t u) → T (table tr i t u)
  final-step i t u l b h = go (new tr i t u h)
    where
      go : New tr i t u → T (table tr i t u)
      go (kept k) = k
      go (started a e k) = absurd (s.target_later i l a (subst (Begins tr i) (sym e) b))
      go (joined a e k) = absurd (s.waiting_later i l a (subst (Begins tr i) (sym e) b))
      go (own a e q) = absurd (not-before l a e b)
      go (linked a e p) = absurd (not-before l a e b)

  final-by : (d i t u : ℕ) → i + d ≤ n → Begins tr i u → T (table tr (i + d) t u) → T (table tr i t u)
  final-by zero i t u l b h = let e : i + 0 ≡ i = omega arith in rw e at h
  final-by (suc d) i t u l b h =
      let e : i + suc d ≡ suc (i + d) = omega arith in
      final-by d i t u (omega arith) b (final-step (i + d) t u (omega arith) (begins-later tr (omega arith) b) (rw e at h))

  pub final : (i j t u : ℕ) → i ≤ j → j ≤ n → Begins tr i u → T (table tr j t u) → T (table tr i t u)
  final i j t u l m b h = let e : i + (j - i) ≡ j = omega arith in final-by (j - i) i t u (omega arith) b (rw e h)

  -- rows are closed downwards
  pub transitive : (i r t u : ℕ) → i ≤ n → T (table tr i r t) → T (table tr i t u) → T (table tr i r u)
  transitive zero r t u l k h = absurd (none tr t u h)
  transitive (suc i) r t u l k h = go (new tr i t u h) (λ v a b. transitive i r t v (omega arith) a b)
    where
      -- r stands in row t already
      there : (v : ℕ) → T (table tr i t v) → T (table tr i r t)
      there v a = final-step i r t (omega arith) (begun-only i t v (omega arith) a) k

      go : New tr i t u → ((v : ℕ) → T (table tr i r t) → T (table tr i t v) → T (table tr i r v)) → T (table tr (suc i) r u)
      go (kept a) f = set tr i r u (kept (f u (there u a) a))
      go (started a e b) f = set tr i r u (started a e (f (at tr i).first (there (at tr i).first b) b))
      go (joined a e b) f = set tr i r u (joined a e (f (at tr i).second (there (at tr i).second b) b))
      go (own a e q) f = subst (λ (v : ℕ). T (table tr (suc i) r v)) q k
      go (linked a e p) f =
          let v = (at tr p.x).second in
          set tr i r u (linked a e (record {
            x = p.x;
            y = p.y;
            earlier = p.earlier;
            inside = p.inside;
            one_link = p.one_link;
            to = p.to;
            senders = p.senders;
            passes = f v (there v p.passes) p.passes;
          }))

  -- rows hold their own event
  pub reflexive : (i e : ℕ) → Begins tr i e → T (table tr i e e)
  reflexive i e b = stays tr (suc b.position) i e e b.inside (set tr b.position e e (own b.is-begin b.of_event refl))

  -- forks, sends and joins
  pub start-closed : (i : ℕ) → i < n → T (starts (at tr i)) → T (table tr n (at tr i).first (at tr i).second)
  start-closed i l a =
      stays tr (suc i) n (at tr i).first (at tr i).second l
      (set tr i (at tr i).first (at tr i).second (started a refl (reflexive i (at tr i).first (s.starter_begun i l a))))

  pub join-closed : (i : ℕ) → i < n → T (is_join (at tr i)) → T (table tr n (at tr i).second (at tr i).first)
  join-closed i l a =
      stays tr (suc i) n (at tr i).second (at tr i).first l
      (set tr i (at tr i).second (at tr i).first (joined a refl (reflexive i (at tr i).second (s.waited_begun i l a))))

  -- what a link puts e behind has begun at e's begin, or is e
  pub target-begun : (i x y : ℕ) → i < n → T (is_begin (at tr i)) → x < y → y < i → T (same_link (at tr x) (at tr y)) → (at tr y).second ≡ (at tr i).first
      → T (table tr i (at tr x).first (at tr y).first) → ((at tr x).second ≡ (at tr i).first) ⊎ Begins tr i (at tr x).second
  unfolding blocked_for
  target-begun i x y l b m k c q h = go (decide_eq v e) (begun-or-not tr v i)
    where
      e : ℕ
      e = (at tr i).first

      v : ℕ
      v = (at tr x).second

      go : (v ≡ e) ⊎ (v ≢ e) → Begins tr i v ⊎ (begun v (past tr i) ≡ false) → (v ≡ e) ⊎ Begins tr i v
      go (inl z) _ = inl z
      go (inr d) (inl f) = inr f
      go (inr d) (inr f) =
          let stuck : T (blocked tr i) = put tr (table tr i) i e (missing tr i e) (record {
            x = x;
            y = y;
            earlier = m;
            inside = k;
            one_link = c;
            to = q;
            senders = h;
            passes = missing-is tr i e v d f;
          }) in
          absurd (subst T (s.unblocked i l b) stuck)

  -- a send stands before its target's begin
  pub start-before : {i : ℕ} → i < n → T (starts (at tr i)) → (b : Begins tr n (at tr i).second) → i < b.position
  start-before {i} l a b = go (lt-or-ge i b.position)
    where
      go : (i < b.position) ⊎ (b.position ≤ i) → i < b.position
      go (inl h) = h
      go (inr h) = go₁ (decide_eq b.position i)
        where
          go₁ : (b.position ≡ i) ⊎ (b.position ≢ i) → i < b.position
          go₁ (inl e) = absurd (begin-no-fork (at tr i) (subst (λ (k : ℕ). T (is_begin (at tr k))) e b.is-begin) a)
          go₁ (inr d) = absurd (s.target_later i l a (record { position = b.position; inside = omega arith; is-begin = b.is-begin; of_event = b.of_event }))

  -- the link rule
  pub link-closed : (x y : ℕ) → x < y → y < n → T (same_link (at tr x) (at tr y)) → T (table tr n (at tr x).first (at tr y).first)
      → Begins tr n (at tr y).second → T (table tr n (at tr x).second (at tr y).second)
  link-closed x y m k c h b = go (target-begun i x y b.inside b.is-begin m j c (sym b.of_event) h')
    where
      i : ℕ
      i = b.position

      v : ℕ
      v = (at tr x).second

      u : ℕ
      u = (at tr y).second

      a : T (starts (at tr y))
      a = link-second (at tr x) (at tr y) c

      j : y < i
      j = start-before k a b

      h' : T (table tr i (at tr x).first (at tr y).first)
      h' =
          let z = b.inside in final i n (at tr x).first (at tr y).first (omega arith) (omega arith)
          (begins-later tr (omega (arith, j)) (s.starter_begun y k a)) h

      go : (v ≡ (at tr i).first) ⊎ Begins tr i v → T (table tr n v u)
      go (inl e) = subst (λ (w : ℕ). T (table tr n w u)) (sym (e ∙ b.of_event)) (reflexive n u b)
      go (inr f) =
          stays tr (suc i) n v u b.inside
          (set tr i v u (linked b.is-begin b.of_event
          (record { x = x; y = y; earlier = m; inside = j; one_link = c; to = refl; senders = h'; passes = reflexive i v f })))

  -- rows hold nothing that begins later
  pub forward : (t u : ℕ) → T (table tr n t u) → (b : Begins tr n t) (c : Begins tr n u) → b.position ≤ c.position
  forward t u h b c =
      let z = c.inside in
      let p = suc c.position in
      let f = begun-only p t u (omega arith) (final p n t u (omega arith) (omega arith) (begins-here tr c.is-begin c.of_event) h) in
      let q = f.inside in
      omega (arith, one-begin b f (omega arith) (omega arith))

  -- of two event actions, all records of one stand before all of the other
  pub stand-apart : (x x' y y' : ℕ) → x' < n → y < n
      → (at tr x).first ≡ (at tr x').first → (at tr y).first ≡ (at tr y').first → (at tr x).first ≢ (at tr y).first
      → x ≤ y → x' < y'
  stand-apart x x' y y' k l e q d h = go (lt-or-ge x' y') (lt-or-ge y' x)
    where
      go : (x' < y') ⊎ (y' ≤ x') → (y' < x) ⊎ (x ≤ y') → x' < y'
      go (inl m) _ = m
      go (inr m) (inr g) = absurd (d (sym (q ∙ s.unbroken x y' x' g m k e)))
      go (inr m) (inl g) = absurd (d (s.unbroken y' x y (omega arith) h l (sym q) ∙ sym q))

  -- so the records of two event actions in order stand in order
  pub apart : (x y : ℕ) → x < n → y < n → Begins tr n (at tr x).first → Begins tr n (at tr y).first → (at tr x).first ≢ (at tr y).first
      → T (table tr n (at tr x).first (at tr y).first) → x < y
  apart x y k l b c d h =
      stand-apart b.position x c.position y k c.inside b.of_event c.of_event (λ e. d (sym b.of_event ∙ e ∙ c.of_event))
      (forward (at tr x).first (at tr y).first h b c)
