-- Filling as the records go on: what each begin finds, whatever makes the links. Base rows are 0 and final rows the clock rows.
-- Assumes nothing.
use Prim.Native.Nat.{ℕ, zero, suc, ◌+◌, ◌-◌, ◌≤◌, ◌<◌, max}
use mathlib.Core.Path.{◌≡◌, refl, sym, ◌∙◌, ap}
use mathlib.Core.Logic.{◌≢◌, ◌⊎◌, inl, inr}
use mathlib.Core.Bool.{Bool, false}
use mathlib.Core.List.{List}
use native.Mathlib.Omega.{arith}
use lib.Dec.{eqb}
use lib.ListN.{length, get_or, set, replicate, length-set, length-replicate, get_or-replicate}
use lib.Seq.{get_or-set_same, get_or-set_other}
use borrow.Author.Tests.{eq-eqb, ne_eqb}
use Rattle.order.specs.Links.{Links, Forward, ◌∈◌, leq}
use Rattle.order.specs.Chains.{bit, chain, used, members}
use Rattle.order.specs.Clocks.{chain_of, entry, merged}
use Rattle.ranks.specs.declared.Ordering.{Ordering}
use Rattle.ranks.specs.declared.Ordering.TheVariants.{Begin}
use Rattle.order.specs.Schedule.{linked}
use Rattle.order.specs.loops.Standing.{begins, Ordered, Makes}
use Rattle.slices.proofs.Tests.{both, eq→eqb, decide_eq, decide-lt, rises}
use Rattle.order.proofs.CountLaws.{count_less, count-mono}
use Rattle.order.proofs.ScheduleLaws.{begins-mono, linked-exact, link-between}
use Rattle.order.proofs.ChainLaws.{chain_first, chain-le-used, used-zero, used-suc, used-mono, used-le-self, lasts-last, members-zero, members-suc, members-count}
use Rattle.order.proofs.SetLaws.{largest-le}
use Rattle.order.proofs.ClockLaws.{below, entry-law, entry_zero, entry-le, merged-count, last-≼}
use Rattle.order.proofs.FlatLaws.{add_at, add-own, add-other}
use Rattle.order.proofs.WalkLaws.{Along, along-begin, along-merged}

-- every chain taken has a member
pub members-some : (le : ℕ → ℕ → Bool) (u c : ℕ) → c < used le u → members le u c ≢ 0
members-some le u c h e =
    let m = lasts-last le u c h in
    omega (arith, members-count le u c, count_less (λ s. false) (λ t. eqb (chain le t) c) u _ m.before (eq→eqb _ c m.member) (λ k. k) (λ s a b. absurd b))

-- Once k event actions have begun: the members of each chain in a list, and the number of chains taken, which the width has.
module _ (l : Links) (w : ℕ) where
  pub record Taken (k : ℕ) (sizes : List ℕ) (chains : ℕ) : Type 0 where
    pub sizes_are : (c : ℕ) → c < w → get_or sizes c 0 ≡ members (leq l) k c
    pub sizes_room : w ≤ length sizes
    pub chains_are : chains ≡ used (leq l) k
    pub chains_fit : chains ≤ w

  pub taken_start : (k : ℕ) → w ≤ k → Taken 0 (replicate k 0) 0
  taken_start k h = record {
    sizes_are = λ c g. get_or-replicate k c 0 0 (omega arith) ∙ sym (members-zero (leq l) c);
    sizes_room = omega (arith, length-replicate {A = ℕ} k 0);
    chains_are = sym (used-zero (leq l));
    chains_fit = omega arith;
  }

  -- one more
  pub taken_more : (u : ℕ) (sizes : List ℕ) (chains : ℕ) → Taken u sizes chains → chain_of l u < w → Taken (suc u) (set sizes (chain_of l u) (get_or sizes (chain_of l u) 0 + 1)) (max chains (suc (chain_of l u)))
  taken_more u sizes chains t h = record {
    sizes_are = λ d k. rw (members-suc (leq l) u d) (size d k (decide_eq d c));
    sizes_room = omega (arith, length-set sizes c (get_or sizes c 0 + 1), t.sizes_room);
    chains_are = ap (λ x. max x (suc c)) t.chains_are ∙ sym (used-suc (leq l) u);
    chains_fit = omega (arith, t.chains_fit);
  }
    where
      c : ℕ
      c = chain_of l u

      size : (d : ℕ) → d < w → (d ≡ c) ⊎ (d ≢ c) → get_or (set sizes c (get_or sizes c 0 + 1)) d 0 ≡ members (leq l) u d + bit (eqb c d)
      size d k (inl e) = rw (e, eq-eqb c c refl, get_or-set_same sizes c (get_or sizes c 0 + 1) 0 (omega (arith, t.sizes_room))) (ap (λ x. x + 1) (t.sizes_are c h))
      size d k (inr e) = rw (ne_eqb c d (λ i. e (sym i)), get_or-set_other sizes c d (get_or sizes c 0 + 1) 0 e) (omega (arith, t.sizes_are d k))

module _ (l : Links) (fw : Forward l) where
  -- a row is 0 where no chain is taken and past its own number
  pub entry-short : (u p c : ℕ) → p < u → (used (leq l) u ≤ c) ⊎ (p < c) → entry l p c ≡ 0
  entry-short u p c h (inl k) = entry_zero l fw p c (omega (arith, used-mono (leq l) (suc p) u h))
  entry-short u p c h (inr k) = entry_zero l fw p c (omega (arith, used-le-self (leq l) (suc p)))

  -- no chain below its own has all its members in a row, and so it stays
  members-mono : (p u c : ℕ) → p ≤ u → members (leq l) p c ≤ members (leq l) u c
  members-mono p u c h = rises (λ k. members (leq l) k c) (λ k. omega (arith, members-suc (leq l) k c)) p u h

  pub below-own : (p c : ℕ) → c < chain_of l p → entry l p c < members (leq l) p c
  below-own p c h =
      let taken : c < used (leq l) p = omega (arith, chain-le-used (leq l) p) in
      let apart : merged l p c ≢ members (leq l) p c = λ e. (chain_first (leq l) p).none c (omega arith) h ((last-≼ l fw p c taken).1 e) in
      let most = count-mono (below l p c) (λ t. eqb (chain_of l t) c) p p (λ s a b. (a, (both (eqb (chain_of l s) c) (leq l s p) b).0)) in
      let bound : merged l p c ≤ members (leq l) p c = omega (arith, merged-count l fw p c, members-count (leq l) p c) in
      let same = rw (ne_eqb (chain_of l p) c (omega arith)) at (entry-law l fw p c) in
      less (merged l p c) (members (leq l) p c) (entry l p c) apart bound (omega arith)
    where
      less : (x y z : ℕ) → x ≢ y → x ≤ y → z ≡ x → z < y
      less x y z n h e = go (decide-lt x y)
        where
          go : (x < y) ⊎ (y ≤ x) → z < y
          go (inl k) = omega arith
          go (inr k) = absurd (n (omega arith))

  -- so none below the chains of all direct predecessors has them in the merged row
  pub hinted-none : (u h : ℕ) → ((p : ℕ) → p ∈ l.preds u → h ≤ chain_of l p) → (c : ℕ) → c < h → c < used (leq l) u → merged l u c ≢ members (leq l) u c
  hinted-none u h low c k g e =
      let some : 0 < members (leq l) u c = positive (members (leq l) u c) (members-some (leq l) u c g) in
      let each : (p : ℕ) → p ∈ l.preds u → entry l p c ≤ members (leq l) u c - 1 = λ p m. omega (arith, below-own p c (omega (arith, low p m)), members-mono p u c (omega (arith, fw u p m))) in
      omega (arith, some, largest-le (l.preds u) (λ p. entry l p c) (members (leq l) u c - 1) each)
    where
      positive : (x : ℕ) → x ≢ 0 → 0 < x
      positive zero n = absurd (n refl)
      positive (suc x) n = omega arith

  module _ (op : ℕ → Ordering) (n : ℕ) (w : Ordered op n) (makes : Makes op n l) where
    abbrev pub Filling : ℕ → (ℕ → ℕ → ℕ) → Type 0
    Filling i rows = Along op (λ u c. 0) (entry l) i rows

    module _ (i v : ℕ) (h : i < n) (e : op i ≡ Begin v) where
      -- at its begin a row has been merged from all of its direct predecessors
      pub row-merged : (rows : ℕ → ℕ → ℕ) → Filling i rows → (c : ℕ) → rows v c ≡ merged l v c
      row-merged rows f c = omega (arith, along-merged op (λ u c. 0) (entry l) n w l makes i v rows h e f c)

      pub filling-begin : (rows : ℕ → ℕ → ℕ) → Filling i rows → Filling (suc i) (add_at rows v (chain_of l v))
      filling-begin rows f =
          along-begin op (λ u c. 0) (entry l) n w i v rows (add_at rows v (chain_of l v)) h e f (λ u c. add-other rows v (chain_of l v) u c)
          (λ c. omega (arith, add-own rows v (chain_of l v) c, row-merged rows f c, entry-law l fw v c))

    -- all numbers of the rows are at most the number of begins
    rows-le-at : (i : ℕ) (rows : ℕ → ℕ → ℕ) → i ≤ n → Filling i rows → (u c : ℕ) → (u < begins op i) ⊎ (begins op i ≤ u) → rows u c ≤ begins op i
    rows-le-at i rows h f u c (inl k) = omega (arith, f.done u c k, entry-le l fw u c)
    rows-le-at i rows h f u c (inr k) = omega (arith, f.coming u c k, largest-le (linked op i u) (λ p. entry l p c) (begins op i) each)
      where
        each : (p : ℕ) → p ∈ linked op i u → entry l p c ≤ begins op i
        each p m =
            let r = (linked-exact op i p u).0 m in
            let b = link-between op n w r.0 p u (omega (arith, r.1)) r.2 in
            omega (arith, entry-le l fw p c, b.0, begins-mono op r.0 i (omega (arith, r.1)))

    pub rows-le : (i : ℕ) (rows : ℕ → ℕ → ℕ) → i ≤ n → Filling i rows → (u c : ℕ) → rows u c ≤ begins op i
    rows-le i rows h f u c = rows-le-at i rows h f u c (decide-lt u (begins op i))
