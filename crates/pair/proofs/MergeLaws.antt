-- A clock row merged into a row, entry by entry. Assumes nothing.
use Prim.Native.Nat.{ℕ, ◌+◌, ◌≤◌, ◌<◌, max}
use mathlib.Core.Path.{◌≡◌, refl, ap, ◌∙◌}
use mathlib.Core.Logic.{◌≢◌, ◌⊎◌, inl, inr}
use mathlib.Core.List.{List}
use native.Mathlib.Omega.{arith}
use lib.ListN.{length, get_or, take, drop, set, length-set}
use lib.Seq.{get_or-set_same, get_or-set_other, get_or-drop, get_or-take, ext_get_or}
use Rattle.slices.proofs.Tests.{decide_eq}
use Rattle.pair.specs.loops.Kept.{Merged}

-- merged as far as chain c
pub record Merging (part : List ℕ) (c : ℕ) (row row' : List ℕ) : Type 0 where
  pub size : length row' ≡ length row
  pub before : (d : ℕ) → d < c → get_or row' d 0 ≡ max (get_or row d 0) (get_or part d 0)
  pub after : (d : ℕ) → c ≤ d → get_or row' d 0 ≡ get_or row d 0

module _ (part row : List ℕ) where
  pub merging_start : Merging part 0 row row
  merging_start = record { size = refl; before = λ d l. absurd (omega arith); after = λ d l. refl }

  pub merging-next : (c : ℕ) (row' : List ℕ) → Merging part c row row' → c < length row → (v : ℕ) → v ≡ max (get_or row' c 0) (get_or part c 0) → Merging part (c + 1) row (set row' c v)
  merging-next c row' m l v e = record {
    size = length-set row' c v ∙ m.size;
    before = λ d k. before d k (decide_eq d c);
    after = λ d k. get_or-set_other row' c d v 0 (λ z. omega arith) ∙ m.after d (omega arith);
  }
    where
      before : (d : ℕ) → d < c + 1 → (d ≡ c) ⊎ (d ≢ c) → get_or (set row' c v) d 0 ≡ max (get_or row d 0) (get_or part d 0)
      before d k (inl z) = rw (z, get_or-set_same row' c v 0 (omega (arith, m.size)), ← m.after c (omega arith)) e
      before d k (inr n) = get_or-set_other row' c d v 0 n ∙ m.before d (omega arith)

  pub merging-end : (c chains : ℕ) (row' : List ℕ) → chains ≤ c → Merging part c row row' → Merged part 0 chains row row'
  merging-end c chains row' l m = record { size = m.size; tells = λ d k. let e : 0 + d ≡ d = omega arith in rw e (m.before d (omega arith)) }

-- a part of the clocks
pub merged-part : (clocks row row' : List ℕ) (at n chains : ℕ) → chains ≤ n → Merged (take n (drop at clocks)) 0 chains row row' → Merged clocks at chains row row'
merged-part clocks row row' at n chains h m = record { size = m.size; tells = λ d k. let e : 0 + d ≡ d = omega arith in m.tells d k ∙ ap (max (get_or row d 0)) (rw e (get_or-take n (drop at clocks) d 0 (omega arith) ∙ get_or-drop at clocks d 0)) }

-- an entry set to what it is
pub set_own : (l : List ℕ) (i v : ℕ) → v ≡ get_or l i 0 → set l i v ≡ l
set_own l i v e = ext_get_or 0 (set l i v) l (length-set l i v) (λ j h. go j h (decide_eq j i))
  where
    go : (j : ℕ) → j < length (set l i v) → (j ≡ i) ⊎ (j ≢ i) → get_or (set l i v) j 0 ≡ get_or l j 0
    go j h (inl q) = rw (q, get_or-set_same l i v 0 (omega (arith, length-set l i v))) e
    go j h (inr n) = get_or-set_other l i j v 0 n
