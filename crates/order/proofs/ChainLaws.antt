-- The chains that event actions take, over any transitive order test. Assumes nothing.
use Prim.Native.Nat.{ℕ, zero, suc, ◌+◌, ◌≤◌, ◌<◌, max}
use mathlib.Core.Path.{◌≡◌, refl, sym, ◌∙◌, ap, subst}
use mathlib.Core.Logic.{◌≢◌, ◌⊎◌, inl, inr, ◌↔◌}
use mathlib.Core.Bool.{Bool, cond}
use mathlib.Core.List.{List, [], ◌∷◌}
use native.Mathlib.Omega.{arith}
use lib.Dec.{T, eqb, leb, leb→le, le→leb}
use lib.ListN.{length, get_or}
use Rattle.order.specs.Chains.{first, bit, count, pick, put, lasts, chain, used, members, needs}
use Rattle.slices.proofs.Tests.{decide, decide_eq, passed, failed, smaller, rises}
use Rattle.order.proofs.CountLaws.{First, first-end, first-here, first_on, first-first, first-only, count-le}

-- `pick` and `put`

pub pick_first : (q : ℕ → Bool) (ms : List ℕ) → First (λ c. q (get_or ms c 0)) 0 (length ms) (pick q ms)
unfolding pick
pick_first q [] = first-end (λ c. q 0) 0
pick_first q (m ∷ ms) = go (decide (q m)) (pick_first q ms)
  where
    at : ℕ → Bool
    at c = q (get_or (m ∷ ms) c 0)

    after : First (λ c. q (get_or ms c 0)) 0 (length ms) (pick q ms) → First at 1 (suc (length ms)) (suc (pick q ms))
    after f = record { from = omega arith; to = omega (arith, f.to); passes = λ k. f.passes (omega arith); none = none }
      where
        none : (j : ℕ) → 1 ≤ j → j < suc (pick q ms) → T (at j) → ⊥
        none zero a b k = absurd (omega arith)
        none (suc j) a b k = f.none j (omega arith) (omega arith) k

    go :
        T (q m) ⊎ (T (q m) → ⊥) →
        First (λ c. q (get_or ms c 0)) 0 (length ms) (pick q ms) →
        First at 0 (suc (length ms)) (cond (q m) 0 (suc (pick q ms)))
    go (inl h) f = rw (passed (q m) h) (first-here at 0 (suc (length ms)) (omega arith) h)
    go (inr h) f = rw (failed (q m) h) (first_on at 0 (suc (length ms)) (suc (pick q ms)) h (after f))

put-length : (ms : List ℕ) (c u : ℕ) → c ≤ length ms → length (put ms c u) ≡ max (length ms) (suc c)
unfolding put
put-length [] c u h = omega arith
put-length (m ∷ ms) zero u h = omega arith
put-length (m ∷ ms) (suc c) u h = omega (arith, put-length ms c u (omega arith))

put_same : (ms : List ℕ) (c u : ℕ) → c ≤ length ms → get_or (put ms c u) c 0 ≡ u
unfolding put
put_same [] zero u h = refl
put_same [] (suc c) u h = absurd (omega arith)
put_same (m ∷ ms) zero u h = refl
put_same (m ∷ ms) (suc c) u h = put_same ms c u (omega arith)

put_other : (ms : List ℕ) (c u d : ℕ) → c ≤ length ms → d ≢ c → get_or (put ms c u) d 0 ≡ get_or ms d 0
unfolding put
put_other [] c u zero h n = absurd (n (omega arith))
put_other [] c u (suc d) h n = refl
put_other (m ∷ ms) zero u zero h n = absurd (n refl)
put_other (m ∷ ms) zero u (suc d) h n = refl
put_other (m ∷ ms) (suc c) u zero h n = refl
put_other (m ∷ ms) (suc c) u (suc d) h n = put_other ms c u d (omega arith) (λ e. n (ap suc e))

module _ (le : ℕ → ℕ → Bool) where
  -- the chain rule: the first chain whose last member is below u, or the number of chains taken so far
  pub chain_first : (u : ℕ) → First (λ c. le (get_or (lasts le u) c 0) u) 0 (used le u) (chain le u)
  unfolding used chain
  chain_first u = pick_first (λ m. le m u) (lasts le u)

  pub chain-search : (u : ℕ) → chain le u ≡ first (λ c. le (get_or (lasts le u) c 0) u) (used le u)
  chain-search u = first-only test (used le u) (chain le u) _ (chain_first u) (first-first test (used le u))
    where
      test : ℕ → Bool
      test c = le (get_or (lasts le u) c 0) u

  pub chain-le-used : (u : ℕ) → chain le u ≤ used le u
  chain-le-used u = (chain_first u).to

  pub used-zero : used le 0 ≡ 0
  unfolding used lasts
  used-zero = refl

  pub used-suc : (u : ℕ) → used le (suc u) ≡ max (used le u) (suc (chain le u))
  unfolding used lasts chain
  used-suc u = put-length (lasts le u) (chain le u) u (chain-le-used u)

  pub chain-lt-used : (u : ℕ) → chain le u < used le (suc u)
  chain-lt-used u = omega (arith, used-suc u)

  pub used-suc-le : (u : ℕ) → used le (suc u) ≤ used le u + 1
  used-suc-le u = omega (arith, used-suc u, chain-le-used u)

  pub used-mono : (u v : ℕ) → u ≤ v → used le u ≤ used le v
  used-mono = rises (used le) (λ u. omega (arith, used-suc u))

  pub chain-below : (t u : ℕ) → t < u → chain le t < used le u
  chain-below t u h = omega (arith, chain-lt-used t, used-mono (suc t) u h)

  pub members-count : (u c : ℕ) → members le u c ≡ count (λ t. eqb (chain le t) c) u
  unfolding members
  members-count u c = refl

  -- no more chains than event actions, and no more members
  pub used-le-self : (u : ℕ) → used le u ≤ u
  used-le-self zero = omega (arith, used-zero)
  used-le-self (suc u) = omega (arith, used-suc-le u, used-le-self u)

  pub members-le : (u c : ℕ) → members le u c ≤ u
  members-le u c = omega (arith, members-count u c, count-le (λ t. eqb (chain le t) c) u)

  pub used_le : (w m : ℕ) → ((t : ℕ) → t < m → chain le t < w) → used le m ≤ w
  used_le w zero f = omega (arith, used-zero)
  used_le w (suc m) f = omega (arith, used-suc m, used_le w m (λ t h. f t (omega arith)), f m (omega arith))

  pub last-own : (u : ℕ) → get_or (lasts le (suc u)) (chain le u) 0 ≡ u
  unfolding lasts chain used
  last-own u = put_same (lasts le u) (chain le u) u (chain-le-used u)

  pub last-other : (u c : ℕ) → c ≢ chain le u → get_or (lasts le (suc u)) c 0 ≡ get_or (lasts le u) c 0
  unfolding lasts chain used
  last-other u c n = put_other (lasts le u) (chain le u) u c (chain-le-used u) n

  -- t is the last member of chain c among the first u event actions
  pub record LastMember (u c t : ℕ) : Type 0 where
    pub before : t < u
    pub member : chain le t ≡ c
    pub latest : (s : ℕ) → s < u → chain le s ≡ c → s ≤ t

  pub last_one : (u c s t : ℕ) → LastMember u c s → LastMember u c t → s ≡ t
  last_one u c s t f g = omega (arith, f.latest t g.before g.member, g.latest s f.before f.member)

  pub lasts-last : (u c : ℕ) → c < used le u → LastMember u c (get_or (lasts le u) c 0)
  lasts-last zero c h = absurd (omega (arith, used-zero))
  lasts-last (suc u) c h = go (decide_eq c (chain le u)) (lasts-last u c)
    where
      more : (t : ℕ) → c ≢ chain le u → LastMember u c t → LastMember (suc u) c t
      more t n m = record { before = omega (arith, m.before); member = m.member; latest = λ s a e. latest s a e (decide_eq s u) }
        where
          latest : (s : ℕ) → s < suc u → chain le s ≡ c → (s ≡ u) ⊎ (s ≢ u) → s ≤ t
          latest s a e (inl i) = absurd (n (sym e ∙ ap (chain le) i))
          latest s a e (inr i) = m.latest s (omega arith) e

      go :
          (c ≡ chain le u) ⊎ (c ≢ chain le u) →
          (c < used le u → LastMember u c (get_or (lasts le u) c 0)) →
          LastMember (suc u) c (get_or (lasts le (suc u)) c 0)
      go (inl e) f = rw (e, last-own u) (record { before = omega arith; member = refl; latest = λ s a i. omega arith })
      go (inr n) f = rw (last-other u c n) (more (get_or (lasts le u) c 0) n (f (omega (arith, used-suc u, chain-le-used u))))

  pub members-zero : (c : ℕ) → members le 0 c ≡ 0
  unfolding members count
  members-zero c = refl

  pub members-suc : (u c : ℕ) → members le (suc u) c ≡ members le u c + bit (eqb (chain le u) c)
  unfolding members count
  members-suc u c = refl

  -- the first begin whose chain has no place in the width
  pub needs-first : (w m : ℕ) → First (λ u. leb w (chain le u)) 0 m (needs le w m)
  unfolding needs
  needs-first w m = first-first (λ u. leb w (chain le u)) m

  pub needs-below : (w m t : ℕ) → t < needs le w m → chain le t < w
  needs-below w m t h =
      let k : w ≤ chain le t → ⊥ = λ i. (needs-first w m).none t (omega arith) h (le→leb w (chain le t) i) in
      omega (arith, k)

  -- it needs the chain after the width's last
  pub needs-chain : (w m : ℕ) → needs le w m < m → chain le (needs le w m) ≡ w
  needs-chain w m h =
      let n = needs le w m in
      omega (arith, leb→le w (chain le n) ((needs-first w m).passes h), chain-le-used n, used_le w n (needs-below w m))

  -- there is none exactly where the width suffices
  pub needs-none : (w m : ℕ) → (needs le w m ≡ m) ↔ (used le m ≤ w)
  needs-none w m = (λ e. used_le w m (λ t h. needs-below w m t (omega arith)), back)
    where
      back : used le m ≤ w → needs le w m ≡ m
      back h =
          let k : needs le w m < m → ⊥ = λ i. absurd (omega (arith, needs-chain w m i, chain-below (needs le w m) m i)) in
          omega (arith, k, (needs-first w m).to)

  pub needs-at : (w m u : ℕ) → u < m → used le u ≤ w → w ≤ chain le u → needs le w m ≡ u
  needs-at w m u h k i = first-only (λ v. leb w (chain le v)) m (needs le w m) u (needs-first w m) (record {
    from = omega arith;
    to = omega arith;
    passes = λ a. le→leb w (chain le u) i;
    none = λ j a b c. absurd (omega (arith, leb→le w (chain le j) c, chain-below j u b));
  })

module _ (le : ℕ → ℕ → Bool) (trans : (t u v : ℕ) → T (le t u) → T (le u v) → T (le t v)) where
  -- the members of one chain are ordered as they begin
  abbrev Below : ℕ → Type 0
  Below u = (t : ℕ) → t < u → chain le t ≡ chain le u → T (le t u)

  ordered_at : (u : ℕ) → ((v : ℕ) → v < u → Below v) → Below u
  ordered_at u f t h e = go (decide_eq t m)
    where
      m : ℕ
      m = get_or (lasts le u) (chain le u) 0

      taken : chain le u < used le u
      taken = omega (arith, chain-below le t u h)

      last : LastMember le u (chain le u) m
      last = lasts-last le u (chain le u) taken

      go : (t ≡ m) ⊎ (t ≢ m) → T (le t u)
      go (inl i) = subst (λ x. T (le x u)) (sym i) ((chain_first le u).passes taken)
      go (inr n) =
          let k = f m last.before t (omega (arith, last.latest t h e)) (e ∙ sym last.member) in
          trans t m u k ((chain_first le u).passes taken)

  pub chain-ordered : (u t : ℕ) → t < u → chain le t ≡ chain le u → T (le t u)
  chain-ordered = smaller Below ordered_at
