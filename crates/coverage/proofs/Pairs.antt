-- What stands in the two lists; and how many numbers pass a test.
use Prim.Native.Nat.{ℕ, zero, suc, ◌+◌, ◌≤◌, ◌<◌}
use mathlib.Core.Path.{◌≡◌, refl, sym, ap, ◌∙◌}
use mathlib.Core.Logic.{◌≢◌, ◌⊎◌, inl, inr, ◌↔◌}
use mathlib.Core.Bool.{Bool, ◌&&◌}
use mathlib.Core.List.Memᴰ
use mathlib.Core.List.{List, [], ◌∷◌, ◌++◌, map, map-append, Memᴰ}
use native.Mathlib.Omega.{arith}
use lib.Dec.{T}
use lib.ListN.{length, length-append, length-map}
use Rattle.coverage.specs.Below.{◌∈◌, upto, pairs, Listed, Sooner, Ordered}
use Rattle.coverage.specs.Setting.{Setting}
use Rattle.coverage.specs.Race.{Race, raceb}
use Rattle.coverage.specs.Neighbours.{Cells, Neighbours, neighbour}
use Rattle.coverage.specs.Lists.{all_races, short_list}
use Rattle.slices.proofs.Tests.{both, and, decide, decide_eq}
use Rattle.coverage.proofs.Lists.{in_map, map-in, in-upto, upto-in, upto-yes, upto-no, upto-empty, upto_zero}
use Rattle.coverage.proofs.Order.{race-of, of-race}
use Rattle.coverage.proofs.Short.{neighbour-iff}

in_pairs : {a b : ℕ} (m : ℕ) (p : ℕ → ℕ → Bool) → Listed a b (pairs m p) → (a < b) × (b < m) × T (p a b)
unfolding pairs
in_pairs zero p h = absurd (Memᴰ.not-nil h)
in_pairs {a} {b} (suc m) p h = go (Memᴰ.append_cases (pairs m p) h) (in_pairs m p)
  where
    go : Listed a b (pairs m p) ⊎ Listed a b (map (λ i. (i, m)) (upto m (λ i. p i m))) → (Listed a b (pairs m p) → (a < b) × (b < m) × T (p a b)) → (a < b) × (b < suc m) × T (p a b)
    go (inl k) f = let r = f k in (r.0, omega (arith, r.1), r.2)
    go (inr k) f = let (i, n, e) = in_map (λ (i : ℕ). (i, m)) (upto m (λ i. p i m)) k in at i (in-upto m (λ i. p i m) n) (ap (λ (z : ℕ × ℕ). z.0) e) (ap (λ (z : ℕ × ℕ). z.1) e)
      where
        at : (i : ℕ) → (i < m) × T (p i m) → a ≡ i → b ≡ m → (a < b) × (b < suc m) × T (p a b)
        at i (l, q) x y = (omega arith, omega arith, rw (x, y) q)

pairs-in : (a b m : ℕ) (p : ℕ → ℕ → Bool) → a < b → b < m → T (p a b) → Listed a b (pairs m p)
unfolding pairs
pairs-in a b zero p l k h = absurd (omega arith)
pairs-in a b (suc m) p l k h = go (decide_eq b m) (pairs-in a b m p l)
  where
    go : (b ≡ m) ⊎ (b ≢ m) → (b < m → T (p a b) → Listed a b (pairs m p)) → Listed a b (pairs m p ++ map (λ i. (i, m)) (upto m (λ i. p i m)))
    go (inl e) f = Memᴰ.append_right (pairs m p) (rw e (map-in (λ (i : ℕ). (i, m)) (upto-in m (λ i. p i m) a (omega arith) (rw e at h))))
    go (inr n) f = Memᴰ.append_left (map (λ i. (i, m)) (upto m (λ i. p i m))) (f (omega arith) h)

-- The pairs are ordered by second, then first.
ordered-append : (l k : List (ℕ × ℕ)) → Ordered l → Ordered k → ((p q : ℕ × ℕ) → Memᴰ p l → Memᴰ q k → Sooner p q) → Ordered (l ++ k)
ordered-append [] k d e h = e
ordered-append (p ∷ l) k d e h = (λ q m. go q (Memᴰ.append_cases l m), ordered-append l k d.1 e (λ p q m n. h p q (Memᴰ.tail m) n))
  where
    go : (q : ℕ × ℕ) → Memᴰ q l ⊎ Memᴰ q k → Sooner p q
    go q (inl m) = d.0 q m
    go q (inr m) = h p q (Memᴰ.head refl) m

firsts-ordered : (b m : ℕ) (p : ℕ → Bool) → Ordered (map (λ a. (a, b)) (upto m p))
firsts-ordered b zero p = rw (upto_zero p) tt
firsts-ordered b (suc m) p = go (decide (p m)) (firsts-ordered b m p)
  where
    pair : ℕ → ℕ × ℕ
    pair a = (a, b)

    last : (q r : ℕ × ℕ) → Memᴰ q (map pair (upto m p)) → Memᴰ r (pair m ∷ []) → Sooner q r
    last q r h k =
        let f = in_map pair (upto m p) h in
        let e = Memᴰ.eq_of_singleton k in
        inr (ap (λ (z : ℕ × ℕ). z.1) f.2 ∙ sym (ap (λ (z : ℕ × ℕ). z.1) e), omega (arith, (in-upto m p f.1).0, ap (λ (z : ℕ × ℕ). z.0) f.2, ap (λ (z : ℕ × ℕ). z.0) e))

    go : T (p m) ⊎ (T (p m) → ⊥) → Ordered (map pair (upto m p)) → Ordered (map pair (upto (suc m) p))
    go (inl h) o = rw (upto-yes m p h, map-append pair (upto m p) (m ∷ [])) (ordered-append (map pair (upto m p)) (pair m ∷ []) o (λ q k. absurd (Memᴰ.not-nil k), tt) last)
    go (inr h) o = rw (upto-no m p h) o

pairs-ordered : (m : ℕ) (p : ℕ → ℕ → Bool) → Ordered (pairs m p)
unfolding pairs
pairs-ordered zero p = tt
pairs-ordered (suc m) p = ordered-append (pairs m p) (map pair (upto m (λ a. p a m))) (pairs-ordered m p) (firsts-ordered m m (λ a. p a m)) (λ q r h k. inl (omega (arith, (in_pairs m p h).1, ap (λ (z : ℕ × ℕ). z.1) (in_map pair (upto m (λ a. p a m)) k).2)))
  where
    pair : ℕ → ℕ × ℕ
    pair a = (a, m)

pub all-ordered : (t : Setting) → Ordered (all_races t)
unfolding all_races
all-ordered t = pairs-ordered t.size (raceb t)

pub short-ordered : (t : Setting) (s : Cells) → Ordered (short_list t s)
unfolding short_list
short-ordered t s = pairs-ordered t.size (λ a b. neighbour s a b && raceb t a b)

pub in_all : (t : Setting) (a b : ℕ) → Listed a b (all_races t) ↔ Race t a b
unfolding all_races
in_all t a b = (λ m. race-of t a b (in_pairs t.size (raceb t) m).2, λ r. pairs-in a b t.size (raceb t) r.first r.inside (of-race t a b r))

pub in-short : (t : Setting) (s : Cells) (a b : ℕ) → Listed a b (short_list t s) ↔ (Neighbours s a b × Race t a b)
unfolding short_list
in-short t s a b = (λ m. let (n, r) = both (neighbour s a b) (raceb t a b) (in_pairs t.size test m).2 in ((neighbour-iff s a b).0 n, race-of t a b r), λ (n, r). pairs-in a b t.size test r.first r.inside (and (neighbour s a b) _ ((neighbour-iff s a b).1 n) (of-race t a b r)))
  where
    test : ℕ → ℕ → Bool
    test a b = neighbour s a b && raceb t a b

-- how many numbers below m pass a test
abbrev pub count : ℕ → (ℕ → Bool) → ℕ
count m p = length (upto m p)

pub count_yes : (m : ℕ) (p : ℕ → Bool) → T (p m) → count (suc m) p ≡ suc (count m p)
count_yes m p h = rw (upto-yes m p h, length-append (upto m p) (m ∷ [])) (omega arith)

pub count_no : (m : ℕ) (p : ℕ → Bool) → (T (p m) → ⊥) → count (suc m) p ≡ count m p
count_no m p h = rw (upto-no m p h) refl

pub count-suc : (m : ℕ) (p : ℕ → Bool) → count (suc m) p ≤ suc (count m p)
count-suc m p = go (decide (p m))
  where
    go : T (p m) ⊎ (T (p m) → ⊥) → count (suc m) p ≤ suc (count m p)
    go (inl h) = rw (count_yes m p h) (omega arith)
    go (inr h) = rw (count_no m p h) (omega arith)

pub count_none : (m : ℕ) (p : ℕ → Bool) → ((i : ℕ) → i < m → T (p i) → ⊥) → count m p ≡ 0
count_none m p h = rw (upto-empty m p h) refl

pub count-le : (m : ℕ) (p q : ℕ → Bool) → ((i : ℕ) → i < m → T (p i) → T (q i)) → count m p ≤ count m q
count-le zero p q h = rw (upto_zero p) (omega arith)
count-le (suc m) p q h = go (decide (p m)) (decide (q m)) (count-le m p q (λ i l k. h i (omega arith) k))
  where
    go : T (p m) ⊎ (T (p m) → ⊥) → T (q m) ⊎ (T (q m) → ⊥) → count m p ≤ count m q → count (suc m) p ≤ count (suc m) q
    go (inl x) (inl y) f = rw (count_yes m p x, count_yes m q y) (omega arith)
    go (inl x) (inr y) f = absurd (y (h m (omega arith) x))
    go (inr x) (inl y) f = rw (count_no m p x, count_yes m q y) (omega arith)
    go (inr x) (inr y) f = rw (count_no m p x, count_no m q y) f

pub count-some : (m : ℕ) (p : ℕ → Bool) (i : ℕ) → i < m → T (p i) → 0 < count m p
count-some m p i l h = go (upto m p) (upto-in m p i l h)
  where
    go : (l : List ℕ) → i ∈ l → 0 < length l
    go [] k = absurd (Memᴰ.not-nil k)
    go (x ∷ l) k = omega arith

-- no two pass: at most one does
pub count-one : (m : ℕ) (p : ℕ → Bool) → ((i j : ℕ) → i < j → j < m → T (p i) → T (p j) → ⊥) → count m p ≤ 1
count-one zero p h = rw (upto_zero p) (omega arith)
count-one (suc m) p h = go (decide (p m)) (count-one m p (λ i j l k. h i j l (omega arith)))
  where
    go : T (p m) ⊎ (T (p m) → ⊥) → count m p ≤ 1 → count (suc m) p ≤ 1
    go (inl x) f = let e = count_none m p (λ i l k. h i m l (omega arith) k x) in rw (count_yes m p x) (omega arith)
    go (inr x) f = rw (count_no m p x) f

pub pairs-count : (m : ℕ) (p : ℕ → ℕ → Bool) → length (pairs (suc m) p) ≡ length (pairs m p) + count m (λ a. p a m)
unfolding pairs
pairs-count m p = rw (length-append (pairs m p) (map {B = ℕ × ℕ} (λ a. (a, m)) (upto m (λ a. p a m))), length-map {B = ℕ × ℕ} (upto m (λ a. p a m)) (λ a. (a, m))) refl

pub pairs-zero : (p : ℕ → ℕ → Bool) → length (pairs zero p) ≡ 0
unfolding pairs
pairs-zero p = refl
