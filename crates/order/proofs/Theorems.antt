-- What is said of chains, rows and the order question, as theorems about happens-before. Assumes nothing.
use Prim.Native.Nat.{ℕ, suc, ◌+◌, ◌*◌, ◌/◌, ◌%◌, ◌≤◌, ◌<◌}
use mathlib.Core.Path.{◌≡◌, ◌∙◌, subst}
use mathlib.Core.Logic.{◌⊎◌, inl, inr, ◌↔◌}
use native.Mathlib.Omega.{arith}
use lib.Dec.{T}
use lib.ListN.{get_or, get_or-eq_default}
use Rattle.clocks.specs.Rows.{compare_in}
use Rattle.order.specs.Links.{Links, Forward, ◌⊢◌≼◌, leq}
use Rattle.order.specs.Chains.{lasts, used}
use Rattle.order.specs.Clocks.{chain_of, clocks_of}
use Rattle.slices.proofs.Tests.{decide-lt}
use Rattle.order.proofs.CountLaws.{First}
use Rattle.order.proofs.OrderLaws.{≼→leq, leq→≼}
use Rattle.order.proofs.ChainLaws.{chain_first, chain-below, LastMember, lasts-last, last_one}
use Rattle.order.proofs.ClockLaws.{entry_zero, entry-le, compare-decides}
use Rattle.order.proofs.RowLaws.{clocks-length, clocks-at, clocks-place, row_below, compare-filled}

module _ (l : Links) (fw : Forward l) where
  -- "the lowest-numbered chain, from 0, whose last member happens before the new one, else a new chain"
  pub record Lowest (u c : ℕ) : Type 0 where
    pub taken : (c ≡ used (leq l) u) ⊎ ((m : ℕ) × LastMember (leq l) u c m × (l ⊢ m ≼ u))
    pub lowest : (d m : ℕ) → d < c → LastMember (leq l) u d m → l ⊢ m ≼ u → ⊥

  pub chain_rule : (u : ℕ) → Lowest u (chain_of l u)
  chain_rule u = record { taken = taken (decide-lt (chain_of l u) (used (leq l) u)); lowest = lowest }
    where
      f : First (λ c. leq l (get_or (lasts (leq l) u) c 0) u) 0 (used (leq l) u) (chain_of l u)
      f = chain_first (leq l) u

      taken :
          (chain_of l u < used (leq l) u) ⊎ (used (leq l) u ≤ chain_of l u) →
          (chain_of l u ≡ used (leq l) u) ⊎ ((m : ℕ) × LastMember (leq l) u (chain_of l u) m × (l ⊢ m ≼ u))
      taken (inl h) = inr (get_or (lasts (leq l) u) (chain_of l u) 0, lasts-last (leq l) u (chain_of l u) h, leq→≼ l fw _ u (f.passes h))
      taken (inr h) = inl (omega (arith, f.to))

      lowest : (d m : ℕ) → d < chain_of l u → LastMember (leq l) u d m → l ⊢ m ≼ u → ⊥
      lowest d m h g k =
          let e = last_one (leq l) u d m (get_or (lasts (leq l) u) d 0) g (lasts-last (leq l) u d (omega (arith, f.to))) in
          f.none d (omega arith) h (subst (λ x. T (leq l x u)) e (≼→leq l fw k))

  -- "unused entries are 0"
  pub unused : (w m u c : ℕ) → u < m → c < w → used (leq l) (suc u) ≤ c → get_or (clocks_of l w m) (u * w + c) 0 ≡ 0
  unused w m u c h k i = clocks-at l w m u c h k ∙ entry_zero l fw u c i

  -- an entry is at most the number of event actions
  pub entries-le : (w m i : ℕ) → get_or (clocks_of l w m) i 0 ≤ m
  entries-le w m i = go (decide-lt i (m * w))
    where
      go : (i < m * w) ⊎ (m * w ≤ i) → get_or (clocks_of l w m) i 0 ≤ m
      go (inl h) = omega (arith, clocks-place l w m i h, entry-le l fw (i / w) (i % w), (row_below w m i h).0)
      go (inr h) = omega (arith, get_or-eq_default (clocks_of l w m) 0 {n = i} (omega (arith, clocks-length l w m)))

  -- "over clocks that filling left, it says yes exactly when t ≼ u"
  pub order-question : (w m t u : ℕ) → used (leq l) m ≤ w → t < m → u < m → T (compare_in (clocks_of l w m) w (chain_of l t) t u) ↔ (l ⊢ t ≼ u)
  order-question w m t u h i j = rw (compare-filled l w m t u i j (omega (arith, chain-below (leq l) t m i))) (compare-decides l fw t u)
