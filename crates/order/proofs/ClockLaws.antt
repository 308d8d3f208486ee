-- A clock entry counts the members of a chain that happen before, so comparing two entries decides happens-before. Assumes nothing.
use Prim.Native.Nat.{ℕ, suc, ◌+◌, ◌≤◌, ◌<◌}
use mathlib.Core.Path.{◌≡◌, sym, ◌∙◌}
use mathlib.Core.Logic.{◌≢◌, ◌⊎◌, inl, inr, ◌↔◌}
use mathlib.Core.Bool.{Bool, ◌&&◌}
use native.Mathlib.Omega.{arith}
use lib.Dec.{T, eqb, eqb→eq, leb→le, le→leb}
use lib.ListN.{get_or}
use Rattle.order.specs.Links.{Links, Forward, ◌∈◌, ◌⊢◌≼◌, same, step, leq}
use Rattle.order.specs.Chains.{first, bit, count, lasts, used, members}
use Rattle.order.specs.Clocks.{largest, chain_of, entry, merged, compare}
use Rattle.order.specs.loops.Sets.{row, index, entry_by, Family}
use Rattle.slices.proofs.Tests.{both, and, decide, decide_eq, eq→eqb}
use Rattle.order.proofs.SetLaws.{family-decides, own-entry, entry-by, clock-by, merged_by}
use Rattle.order.proofs.OrderLaws.{≼_trans, ≼-last, ≼→leq, leq→≼, leq-refl, leq-trans, leq-forward}
use Rattle.order.proofs.CountLaws.{first_one, first-first, count-le, count-mono, count_less, count_none}
use Rattle.order.proofs.ChainLaws.{chain_first, chain-ordered, chain-below, LastMember, lasts-last, members-count}

module _ (l : Links) where
  -- t is a member of chain c and happens before u
  abbrev pub below : ℕ → ℕ → ℕ → Bool
  below u c t = eqb (chain_of l t) c && leq l t u

  -- the row merged for u has all members of chain c that have begun
  abbrev pub full : ℕ → ℕ → Bool
  full u c = eqb (merged l u c) (members (leq l) u c)

module _ (l : Links) (fw : Forward l) where
  -- the members of one chain are ordered as they begin
  pub chain-≼ : (t u : ℕ) → t ≤ u → chain_of l t ≡ chain_of l u → l ⊢ t ≼ u
  chain-≼ t u h e = go (decide_eq t u)
    where
      go : (t ≡ u) ⊎ (t ≢ u) → l ⊢ t ≼ u
      go (inl i) = same i
      go (inr n) = leq→≼ l fw t u (chain-ordered (leq l) (leq-trans l fw) u t (omega arith) e)

  pub of-below : (u c t : ℕ) → T (below l u c t) → (chain_of l t ≡ c) × (l ⊢ t ≼ u)
  of-below u c t h = let r = both (eqb (chain_of l t) c) (leq l t u) h in (eqb→eq (chain_of l t) c r.0, leq→≼ l fw t u r.1)

  pub is_below : (u c t : ℕ) → chain_of l t ≡ c → l ⊢ t ≼ u → T (below l u c t)
  is_below u c t e h = and (eqb (chain_of l t) c) (leq l t u) (eq→eqb (chain_of l t) c e) (≼→leq l fw h)

  -- what happens before each event action: the sets of which its rows are
  abbrev up_to : ℕ → ℕ → Bool
  up_to u t = leq l t u

  happened : (m : ℕ) → Family m (chain_of l) up_to
  happened m = record {
    self = λ u i. leq-refl l fw u;
    ahead = λ u t i j h. leq-forward l fw t u h;
    initial = λ u i s t a b e h. leq-trans l fw s t u (≼→leq l fw (chain-≼ s t a e)) h;
  }

  by-link : (u t : ℕ) → T (up_to u t) ↔ ((t ≡ u) ⊎ ((p : ℕ) × (p ∈ l.preds u) × T (up_to p t)))
  by-link u t = (λ h. there ((≼-last l t u).0 (leq→≼ l fw t u h)), back)
    where
      there : (t ≡ u) ⊎ ((p : ℕ) × (l ⊢ t ≼ p) × (p ∈ l.preds u)) → (t ≡ u) ⊎ ((p : ℕ) × (p ∈ l.preds u) × T (up_to p t))
      there (inl e) = inl e
      there (inr (p, h, k)) = inr (p, k, ≼→leq l fw h)

      back : (t ≡ u) ⊎ ((p : ℕ) × (p ∈ l.preds u) × T (up_to p t)) → T (up_to u t)
      back (inl e) = ≼→leq l fw (same e)
      back (inr (p, k, h)) = ≼→leq l fw (step (leq→≼ l fw t p h) k)

  -- "the largest of the direct predecessors' rows, entry by entry, with 1 added at its own chain"
  pub entry-law : (u c : ℕ) → entry l u c ≡ largest (l.preds u) (λ p. entry l p c) + bit (eqb (chain_of l u) c)
  unfolding entry entry_by
  entry-law u c = entry-by (chain_of l) l fw u c

  -- The clock theorem: an entry is the number of members of the chain that happen before.
  pub clock : (u c : ℕ) → entry l u c ≡ count (below l u c) (suc u)
  unfolding entry entry_by row
  clock u c = clock-by (suc u) (chain_of l) up_to (happened (suc u)) l fw (λ v t i j. by-link v t) u (omega arith) c

  pub merged-count : (u c : ℕ) → merged l u c ≡ count (below l u c) u
  unfolding entry entry_by row
  merged-count u c = merged_by (suc u) (chain_of l) up_to (happened (suc u)) l fw (λ v t i j. by-link v t) u (omega arith) c

  pub entry_zero : (u c : ℕ) → used (leq l) (suc u) ≤ c → entry l u c ≡ 0
  entry_zero u c h = clock u c ∙ count_none (below l u c) (suc u) none
    where
      none : (s : ℕ) → s < suc u → T (below l u c s) → ⊥
      none s a b = omega (arith, (of-below u c s b).0, chain-below (leq l) s (suc u) a)

  pub entry-le : (u c : ℕ) → entry l u c ≤ suc u
  entry-le u c = omega (arith, clock u c, count-le (below l u c) (suc u))

  -- comparing t's entry at t's chain in both rows decides happens-before, for any two event actions
  pub entry-decides : (t u : ℕ) → (entry l t (chain_of l t) ≤ entry l u (chain_of l t)) ↔ (l ⊢ t ≼ u)
  unfolding row
  entry-decides t u = rw (clock t (chain_of l t), clock u (chain_of l t), own) (λ h. leq→≼ l fw t u (r.1 h), λ h. r.0 (≼→leq l fw h))
    where
      own : count (below l t (chain_of l t)) (suc t) ≡ index (chain_of l) t
      own = own-entry (suc t) (chain_of l) up_to (happened (suc t)) t (omega arith)

      r : T (up_to u t) ↔ (index (chain_of l) t ≤ count (below l u (chain_of l t)) (suc u))
      r = family-decides (suc (t + u)) (chain_of l) up_to (happened (suc (t + u))) u t (omega arith) (omega arith)

  pub compare-decides : (t u : ℕ) → T (compare l t u) ↔ (l ⊢ t ≼ u)
  unfolding compare
  compare-decides t u = (λ h. (entry-decides t u).0 (leb→le _ _ h), λ h. le→leb _ _ ((entry-decides t u).1 h))

  -- the last member of a chain happens before u exactly where the merged entry counts all members so far
  pub last-≼ : (u c : ℕ) → c < used (leq l) u → T (leq l (get_or (lasts (leq l) u) c 0) u) ↔ (merged l u c ≡ members (leq l) u c)
  last-≼ u c h = rw (merged-count u c, members-count (leq l) u c) (there, λ e. back e (decide (leq l m u)))
    where
      m : ℕ
      m = get_or (lasts (leq l) u) c 0

      last : LastMember (leq l) u c m
      last = lasts-last (leq l) u c h

      mine : ℕ → Bool
      mine t = eqb (chain_of l t) c

      less : (s : ℕ) → s < u → T (below l u c s) → T (mine s)
      less s a b = eq→eqb (chain_of l s) c (of-below u c s b).0

      there : T (leq l m u) → count (below l u c) u ≡ count mine u
      there k =
          let low = count-mono (below l u c) mine u u (λ s a b. (a, less s a b)) in
          let high = count-mono mine (below l u c) u u (λ s a b.
          let e = eqb→eq (chain_of l s) c b in
          (a, is_below u c s e (≼_trans l (chain-≼ s m (last.latest s a e) (e ∙ sym last.member)) (leq→≼ l fw m u k)))) in
          omega arith

      back : count (below l u c) u ≡ count mine u → T (leq l m u) ⊎ (T (leq l m u) → ⊥) → T (leq l m u)
      back e (inl k) = k
      back e (inr n) =
          let one = eq→eqb (chain_of l m) c last.member in
          absurd (omega (arith, e, count_less (below l u c) mine u m last.before one (λ k. n (≼→leq l fw (of-below u c m k).1)) less))

  -- so the chain is read off the merged row and the numbers of members
  pub chain-merged : (u : ℕ) → chain_of l u ≡ first (full l u) (used (leq l) u)
  chain-merged u =
      let k = used (leq l) u in
      first_one last-below (full l u) k (chain_of l u) (first (full l u) k) agree (chain_first (leq l) u) (first-first (full l u) k)
    where
      last-below : ℕ → Bool
      last-below c = leq l (get_or (lasts (leq l) u) c 0) u

      agree : (c : ℕ) → c < used (leq l) u → T (last-below c) ↔ T (full l u c)
      agree c h =
          let r = last-≼ u c h in
          (λ k. eq→eqb (merged l u c) (members (leq l) u c) (r.0 k), λ k. r.1 (eqb→eq (merged l u c) (members (leq l) u c) k))
