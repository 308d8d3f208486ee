-- The last member of each chain and the chains of the rows asked for, once the first rows have entered theirs. Assumes nothing.
use Prim.Native.Nat.{ℕ, suc, ◌-◌, ◌<◌, ◌≤◌, max}
use mathlib.Core.Path.{◌≡◌, refl, sym, ap, ◌∙◌}
use mathlib.Core.Bool.{Bool, cond}
use mathlib.Core.List.{List}
use native.Mathlib.Omega.{arith}
use native.Mathlib.Decide.{ℕ_discrete}
use borrow.Author.Tests.{le-leb, lt-leb, eq-eqb, ne_eqb}
use lib.Dec.{eqb}
use lib.ListN.{length, get_or, set, replicate, length-set, length-append, length-replicate}
use lib.Seq.{get_or-set_same, get_or-set_other}
use Rattle.slices.specs.Slices.{filled}
use Rattle.slices.proofs.Cleared.{zeros-at}
use Rattle.order.specs.Links.{Links, leq}
use Rattle.order.specs.Chains.{lasts, chain, used}
use Rattle.order.specs.Clocks.{table, chain_of}
use Rattle.order.proofs.ChainLaws.{chain-le-used, used-zero, used-suc, last-own, last-other}
use Rattle.order.proofs.RowLaws.{table-length}
use Rattle.order.proofs.FillTable.{chains_of, chains-more}
use Rattle.question.specs.declared.chains.Members.{Members}
use Rattle.question.specs.loops.ChainPass.{own_chain, enter_chain}

pub enter-room : (x y w u : ℕ) (s : Members) (c : ℕ) → c < w
    → enter_chain x y w u s c
    ≡ record { lasts = set s.lasts c u; chains = max s.chains (suc c); first = own_chain x u c s.first; second = own_chain y u c s.second }
unfolding enter_chain
enter-room x y w u s c h = rw (lt-leb w c h)

pub enter-full : (x y w u : ℕ) (s : Members) (c : ℕ) → w ≤ c
    → enter_chain x y w u s c ≡ record { lasts = s.lasts; chains = suc w; first = s.first; second = s.second }
unfolding enter_chain
enter-full x y w u s c h = rw (le-leb w c h)

-- the chain of the row asked for is its entry in the list of chains by row
own-entry : (asked u c : ℕ) (chosen : List ℕ) → u < length chosen → own_chain asked u c (get_or chosen asked 0) ≡ get_or (set chosen u c) asked 0
unfolding own_chain
own-entry asked u c chosen h = go (ℕ_discrete u asked)
  where
    go : Dec (u ≡ asked) → cond (eqb u asked) c (get_or chosen asked 0) ≡ get_or (set chosen u c) asked 0
    go (yes e) = rw (← e, eq-eqb u u refl) (sym (get_or-set_same chosen u c 0 h))
    go (no n) = rw (ne_eqb u asked n) (sym (get_or-set_other chosen u asked c 0 (λ e. n (sym e))))

module _ (l : Links) (x y w : ℕ) where
  abbrev le : ℕ → ℕ → Bool
  le = leq l

  -- after the first u rows
  pub record Holding (u : ℕ) (s : Members) : Type 0 where
    pub lasts_are : (c : ℕ) → c < used le u → get_or s.lasts c 0 ≡ get_or (lasts le u) c 0
    pub lasts_size : length s.lasts ≡ 1024
    pub chains_are : s.chains ≡ used le u
    pub chains_fit : s.chains ≤ w
    pub first-is : s.first ≡ get_or (chains_of l u) x 0
    pub second_is : s.second ≡ get_or (chains_of l u) y 0

  pub holding-start : (ls : List ℕ) → length ls ≡ 1024 → Holding 0 (record { lasts = ls; chains = 0; first = 0; second = 0 })
  unfolding filled table
  holding-start ls h = record {
    lasts_are = λ c k. absurd (omega (arith, used-zero le));
    lasts_size = h;
    chains_are = sym (used-zero le);
    chains_fit = omega arith;
    first-is = sym (zeros-at 1024 x);
    second_is = sym (zeros-at 1024 y);
  }

  -- row u enters its chain
  module _ (narrow : w ≤ 1024) (u : ℕ) (low : u < 1024) (s : Members) (k : Holding u s) (t : chain le u < w) where
    size : length (chains_of l u) ≡ 1024
    size = omega (arith, length-append (table u (chain_of l)) (replicate (1024 - u) 0), table-length u (chain_of l), length-replicate {A = ℕ} (1024 - u) 0)

    own : (z : ℕ) → own_chain z u (chain le u) (get_or (chains_of l u) z 0) ≡ get_or (chains_of l (suc u)) z 0
    own z = own-entry z u (chain le u) (chains_of l u) (omega (arith, size)) ∙ ap (λ (chosen : List ℕ). get_or chosen z 0) (chains-more l u low)

    last : (c : ℕ) → c < used le (suc u) → Dec (c ≡ chain le u) → get_or (set s.lasts (chain le u) u) c 0 ≡ get_or (lasts le (suc u)) c 0
    last c h (yes d) = rw (d, get_or-set_same s.lasts (chain le u) u 0 (omega (arith, k.lasts_size))) (sym (last-own le u))
    last c h (no d) =
        rw (get_or-set_other s.lasts (chain le u) c u 0 d)
        (k.lasts_are c (omega (arith, h, used-suc le u, chain-le-used le u, d)) ∙ sym (last-other le u c d))

    pub holding-next : Holding (suc u) (enter_chain x y w u s (chain le u))
    holding-next = rw (enter-room x y w u s (chain le u) t) (record {
      lasts_are = λ c h. last c h (ℕ_discrete c (chain le u));
      lasts_size = length-set s.lasts (chain le u) u ∙ k.lasts_size;
      chains_are = rw k.chains_are (sym (used-suc le u));
      chains_fit = omega (arith, k.chains_fit);
      first-is = rw k.first-is (own x);
      second_is = rw k.second_is (own y);
    })
