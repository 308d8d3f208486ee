-- The short list has at most two entries for a record, over all cells. Assumes nothing.
use Prim.Native.Nat.{ℕ, zero, suc, ◌+◌, ◌*◌, ◌≤◌, ◌<◌}
use mathlib.Core.Path.{◌≡◌, sym, ◌∙◌, ap}
use mathlib.Core.Logic.{◌⊎◌, inl, inr}
use mathlib.Core.Bool.{Bool, not, ◌&&◌}
use native.Mathlib.Omega.{arith}
use lib.Dec.{T, ltb, eqb, eqb→eq, ltb→lt, lt→ltb, T_not, not_T}
use lib.ListN.{length}
use Rattle.coverage.specs.Below.{some, pairs}
use Rattle.coverage.specs.Setting.{Setting}
use Rattle.coverage.specs.Race.{raceb}
use Rattle.coverage.specs.Neighbours.{Cells, writes, neighbour, Neighbours, write_write, write_read, read_write}
use Rattle.coverage.specs.Lists.{short_list}
use Rattle.slices.proofs.Tests.{both, and, decide, eq→eqb}
use Rattle.coverage.proofs.Below.{found, find}
use Rattle.coverage.proofs.Lists.{upto_zero}
use Rattle.coverage.proofs.Short.{neighbour-iff}
use Rattle.coverage.proofs.Pairs.{count, count_yes, count_no, count-suc, count-le, count-one, pairs-zero, pairs-count}

-- two tests that exclude each other
count-two : (m : ℕ) (p q r : ℕ → Bool) → ((i : ℕ) → i < m → T (p i) → T (r i) × (T (q i) → ⊥)) → ((i : ℕ) → i < m → T (q i) → T (r i)) → count m p + count m q ≤ count m r
count-two zero p q r f g = omega (arith, ap length (upto_zero p), ap length (upto_zero q))
count-two (suc m) p q r f g = go (decide (p m)) (decide (q m)) (decide (r m)) (count-two m p q r (λ i l. f i (omega arith)) (λ i l. g i (omega arith)))
  where
    go : T (p m) ⊎ (T (p m) → ⊥) → T (q m) ⊎ (T (q m) → ⊥) → T (r m) ⊎ (T (r m) → ⊥) → count m p + count m q ≤ count m r → count (suc m) p + count (suc m) q ≤ count (suc m) r
    go (inl h) (inl k) _ b = absurd ((f m (omega arith) h).1 k)
    go (inl h) (inr k) (inl z) b = rw (count_yes m p h, count_no m q k, count_yes m r z) (omega arith)
    go (inl h) (inr k) (inr z) b = absurd (z (f m (omega arith) h).0)
    go (inr h) (inl k) (inl z) b = rw (count_no m p h, count_yes m q k, count_yes m r z) (omega arith)
    go (inr h) (inl k) (inr z) b = absurd (z (g m (omega arith) k))
    go (inr h) (inr k) (inl z) b = rw (count_no m p h, count_no m q k, count_yes m r z) (omega arith)
    go (inr h) (inr k) (inr z) b = rw (count_no m p h, count_no m q k, count_no m r z) b

module _ (s : Cells) (f : ℕ → ℕ → Bool) (pair : (a b : ℕ) → T (f a b) → Neighbours s a b) where
  -- no record between a and m writes the cell of a
  Loose : ℕ → ℕ → Type 0
  Loose m a = (w : ℕ) → a < w → w < m → s.cell w ≡ s.cell a → T (writes s w) → ⊥

  loose : ℕ → ℕ → Bool
  loose m a = not (some m (λ w. ltb a w && (eqb (s.cell w) (s.cell a) && writes s w)))

  loose-of : (m a : ℕ) → Loose m a → T (loose m a)
  unfolding Loose loose
  loose-of m a n = not_T (some m (λ w. ltb a w && (eqb (s.cell w) (s.cell a) && writes s w))) (λ h.
      let (w, l, k) = found m (λ w. ltb a w && (eqb (s.cell w) (s.cell a) && writes s w)) h in
      let (p, q) = both (ltb a w) _ k in
      let (e, v) = both (eqb (s.cell w) (s.cell a)) (writes s w) q in
      n w (ltb→lt a w p) l (eqb→eq (s.cell w) (s.cell a) e) v)

  of_loose : (m a : ℕ) → T (loose m a) → Loose m a
  unfolding Loose loose
  of_loose m a h w l k e v =
      T_not (some m (λ w. ltb a w && (eqb (s.cell w) (s.cell a) && writes s w))) h
      (find m (λ w. ltb a w && (eqb (s.cell w) (s.cell a) && writes s w)) w k (and (ltb a w) _ (lt→ltb a w l) (and (eqb (s.cell w) (s.cell a)) (writes s w) (eq→eqb (s.cell w) (s.cell a) e) v)))

  -- the first of a pair
  record First (a b : ℕ) : Type 0 where
    earlier : a < b
    same : s.cell a ≡ s.cell b
    none : (w : ℕ) → a < w → w < b → s.cell w ≡ s.cell b → T (writes s w) → ⊥
    one : T (writes s b) ⊎ T (writes s a)

  first : (a b : ℕ) → T (f a b) → First a b
  first a b h = go (pair a b h)
    where
      go : Neighbours s a b → First a b
      go (write_write l e x y n) = record { earlier = l; same = e; none = n; one = inl y }
      go (write_read l e x y n) = record { earlier = l; same = e; none = n; one = inr x }
      go (read_write l e x y n) = record { earlier = l; same = e; none = n; one = inl y }

  first-loose : (a b : ℕ) → T (f a b) → T (loose b a)
  unfolding Loose
  first-loose a b h = let p = first a b h in loose-of b a (λ w l k e v. p.none w l k (e ∙ p.same) v)

  abbrev looses : ℕ → ℕ
  looses m = count m (loose m)

  still : (m i : ℕ) → i < m → T (loose (suc m) i) → T (loose m i)
  unfolding Loose
  still m i l h = loose-of m i (λ w x y e v. of_loose (suc m) i h w x (omega arith) e v)

  at-write : (m : ℕ) → T (writes s m) → count m (λ a. f a m) + count m (loose (suc m)) ≤ looses m
  unfolding Loose
  at-write m h = count-two m (λ a. f a m) (loose (suc m)) (loose m) (λ a l k. (first-loose a m k, λ o. of_loose (suc m) a o m l (omega arith) (sym (first a m k).same) h)) (still m)

  at_other : (m : ℕ) → (T (writes s m) → ⊥) → count m (λ a. f a m) + count m (loose (suc m)) ≤ looses m + 1
  at_other m n = omega (arith, count-one m (λ a. f a m) one, count-le m (loose (suc m)) (loose m) (still m))
    where
      one : (i j : ℕ) → i < j → j < m → T (f i m) → T (f j m) → ⊥
      one i j l k p q = (first i m p).none j l k (first j m q).same (go (first j m q).one)
        where
          go : T (writes s m) ⊎ T (writes s j) → T (writes s j)
          go (inl h) = absurd (n h)
          go (inr h) = h

  bound : (m : ℕ) → length (pairs m f) + looses m ≤ 2 * m
  bound zero = rw (pairs-zero f) (omega (arith, ap length (upto_zero (loose 0))))
  bound (suc m) = go (decide (writes s m)) (bound m)
    where
      go : T (writes s m) ⊎ (T (writes s m) → ⊥) → length (pairs m f) + looses m ≤ 2 * m → length (pairs (suc m) f) + looses (suc m) ≤ 2 * suc m
      go (inl h) b = rw (pairs-count m f) (omega (arith, at-write m h, count-suc m (loose (suc m))))
      go (inr n) b = rw (pairs-count m f) (omega (arith, at_other m n, count-suc m (loose (suc m))))

pub short-total : (t : Setting) (s : Cells) → length (short_list t s) ≤ 2 * t.size
unfolding short_list
short-total t s = omega (arith, bound s (λ a b. neighbour s a b && raceb t a b) (λ a b h. (neighbour-iff s a b).0 (both (neighbour s a b) (raceb t a b) h).0) t.size)
