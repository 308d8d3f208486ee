-- "With p writes (at least 1) and q reads there are at most p − 1 + 2q entries": of one cell, in the short list.
use Prim.Native.Nat.{ℕ, zero, suc, ◌+◌, ◌-◌, ◌*◌, ◌≤◌, ◌<◌}
use mathlib.Core.Path.{◌≡◌, sym, ap, ◌∙◌, subst}
use mathlib.Core.Logic.{◌≢◌, ◌⊎◌, inl, inr}
use mathlib.Core.Bool.{Bool, not, ◌&&◌, ◌||◌}
use native.Mathlib.Omega.{arith}
use lib.Dec.{T, ltb, eqb, eqb→eq, ltb→lt, lt→ltb, T_not, not_T}
use lib.ListN.{length}
use Rattle.coverage.specs.Below.{some, pairs}
use Rattle.coverage.specs.Setting.{Setting}
use Rattle.coverage.specs.Race.{raceb}
use Rattle.coverage.specs.Neighbours.{Cells, writes, reads, neighbour, NoWrite, Neighbours, write_write, write_read, read_write}
use Rattle.coverage.specs.Lists.{cell_writes, cell_reads, cell_entries}
use Rattle.slices.proofs.Tests.{both, and, either, or_left, or_right, decide, decide_eq, eq→eqb}
use Rattle.coverage.proofs.Below.{found, find}
use Rattle.coverage.proofs.Lists.{upto_zero}
use Rattle.coverage.proofs.Short.{neighbour-iff}
use Rattle.coverage.proofs.Pairs.{count, count_yes, count_no, count-suc, count_none, count-le, count-some, count-one, pairs-zero, pairs-count}

-- Numbers that write and numbers that read; a is free at m if it does either, and nothing between a and m writes.
module _ (W R : ℕ → Bool) where
  record Free (m a : ℕ) : Type 0 where
    access : T (W a) ⊎ T (R a)
    none : (w : ℕ) → a < w → w < m → T (W w) → ⊥

  free : ℕ → ℕ → Bool
  free m a = (W a || R a) && not (some m (λ w. ltb a w && W w))

  free_of : (m a : ℕ) → Free m a → T (free m a)
  unfolding free
  free_of m a f = and (W a || R a) _ (go f.access) (not_T (some m (λ w. ltb a w && W w)) (λ h. let (w, l, k) = found m (λ w. ltb a w && W w) h in let (p, q) = both (ltb a w) (W w) k in f.none w (ltb→lt a w p) l q))
    where
      go : T (W a) ⊎ T (R a) → T (W a || R a)
      go (inl h) = or_left (W a) (R a) h
      go (inr h) = or_right (W a) (R a) h

  of-free : (m a : ℕ) → T (free m a) → Free m a
  unfolding free
  of-free m a h =
      let (p, q) = both (W a || R a) (not (some m (λ w. ltb a w && W w))) h in
      record { access = either (W a) (R a) p; none = λ w l k v. T_not (some m (λ w. ltb a w && W w)) q (find m (λ w. ltb a w && W w) w k (and (ltb a w) (W w) (lt→ltb a w l) v)) }

-- pairs of a free number and a later one that writes, or reads where the free one writes
module _ (W R : ℕ → Bool) (apart : (i : ℕ) → T (W i) → T (R i) → ⊥) (f : ℕ → ℕ → Bool) (pair : (a b : ℕ) → a < b → T (f a b) → Free W R b a × (T (W b) ⊎ (T (R b) × T (W a)))) where
  abbrev frees : ℕ → ℕ
  frees m = count m (free W R m)

  abbrev Bound : ℕ → Type 0
  Bound m = length (pairs m f) + frees m ≤ count m W + 2 * count m R

  fewer : (m : ℕ) → count m (free W R (suc m)) ≤ frees m
  fewer m = count-le m (free W R (suc m)) (free W R m) (λ i l h. let g = of-free W R (suc m) i h in free_of W R m i (record { access = g.access; none = λ w x y. g.none w x (omega arith) }))

  at-write : (m : ℕ) → T (W m) → Bound m → Bound (suc m)
  at-write m h b =
      let x : count m (λ a. f a m) ≤ frees m = count-le m (λ a. f a m) (free W R m) (λ a l k. free_of W R m a (pair a m l k).0) in
      let y : frees (suc m) ≤ 1 = count-one (suc m) (free W R (suc m)) (λ i j l k p q. (of-free W R (suc m) i p).none m (omega arith) (omega arith) h) in
      rw (pairs-count m f, count_yes m W h, count_no m R (apart m h)) (omega arith)

  at_read : (m : ℕ) → T (R m) → Bound m → Bound (suc m)
  at_read m h b =
      let x : count m (λ a. f a m) ≤ 1 = count-one m (λ a. f a m) (λ i j l k p q. (pair i m (omega arith) p).0.none j l k (write j (pair j m k q).1)) in
      let y : frees (suc m) ≤ suc (frees m) = omega (arith, count-suc m (free W R (suc m)), fewer m) in
      rw (pairs-count m f, count_no m W (λ k. apart m k h), count_yes m R h) (omega arith)
    where
      write : (a : ℕ) → T (W m) ⊎ (T (R m) × T (W a)) → T (W a)
      write a (inl k) = absurd (apart m k h)
      write a (inr k) = k.1

  at_other : (m : ℕ) → (T (W m) → ⊥) → (T (R m) → ⊥) → Bound m → Bound (suc m)
  at_other m n k b =
      let x : count m (λ a. f a m) ≡ 0 = count_none m (λ a. f a m) (λ a l h. no a (pair a m l h).1) in
      let y : frees (suc m) ≤ frees m = rw (count_no m (free W R (suc m)) (λ h. neither (of-free W R (suc m) m h).access)) (fewer m) in
      rw (pairs-count m f, count_no m W n, count_no m R k) (omega arith)
    where
      no : (a : ℕ) → T (W m) ⊎ (T (R m) × T (W a)) → ⊥
      no a (inl h) = n h
      no a (inr h) = k h.0

      neither : T (W m) ⊎ T (R m) → ⊥
      neither (inl h) = n h
      neither (inr h) = k h

  bound : (m : ℕ) → Bound m
  bound zero = rw (pairs-zero f, upto_zero (free W R 0)) (omega arith)
  bound (suc m) = go (decide (W m)) (decide (R m)) (bound m)
    where
      go : T (W m) ⊎ (T (W m) → ⊥) → T (R m) ⊎ (T (R m) → ⊥) → Bound m → Bound (suc m)
      go (inl h) _ b = at-write m h b
      go (inr n) (inl h) b = at_read m h b
      go (inr n) (inr k) b = at_other m n k b

  -- the last that writes is free
  last : (m : ℕ) → 0 < count m W → (a : ℕ) × (a < m) × Free W R m a
  last zero l = absurd (omega (arith, ap length (upto_zero W)))
  last (suc m) l = go (decide (W m)) (last m)
    where
      go : T (W m) ⊎ (T (W m) → ⊥) → (0 < count m W → (a : ℕ) × (a < m) × Free W R m a) → (a : ℕ) × (a < suc m) × Free W R (suc m) a
      go (inl h) g = (m, omega arith, record { access = inl h; none = λ w x y. absurd (omega arith) })
      go (inr n) g = let (a, k, r) = g (omega (arith, count_no m W n)) in (a, omega arith, record { access = r.access; none = λ w x y h. past r w x y h (decide_eq w m) })
        where
          past : {a : ℕ} → Free W R m a → (w : ℕ) → a < w → w < suc m → T (W w) → (w ≡ m) ⊎ (w ≢ m) → ⊥
          past r w x y h (inl e) = n (subst (λ (i : ℕ). T (W i)) e h)
          past r w x y h (inr d) = r.none w x (omega arith) h

  pairs-bound : (m : ℕ) → 0 < count m W → length (pairs m f) ≤ count m W - 1 + 2 * count m R
  pairs-bound m l = let (a, k, r) = last m l in omega (arith, bound m, count-some m (free W R m) a k (free_of W R m a r))

module _ (t : Setting) (s : Cells) (c : ℕ) where
  abbrev writes_of : ℕ → Bool
  writes_of i = writes s i && eqb (s.cell i) c

  abbrev reads_of : ℕ → Bool
  reads_of i = reads s i && eqb (s.cell i) c

  abbrev entries_of : ℕ → ℕ → Bool
  entries_of a b = (neighbour s a b && raceb t a b) && eqb (s.cell b) c

  at : (i : ℕ) (x : Bool) → s.cell i ≡ c → T x → T (x && eqb (s.cell i) c)
  at i x e h = and x _ h (eq→eqb (s.cell i) c e)

  pair_of : (a b : ℕ) → s.cell b ≡ c → Neighbours s a b → Free writes_of reads_of b a × (T (writes_of b) ⊎ (T (reads_of b) × T (writes_of a)))
  pair_of a b e n = go n
    where
      none : NoWrite s a b → (w : ℕ) → a < w → w < b → T (writes_of w) → ⊥
      none n w x y h = let (p, q) = both (writes s w) (eqb (s.cell w) c) h in n w x y (eqb→eq (s.cell w) c q ∙ sym e) p

      go : Neighbours s a b → Free writes_of reads_of b a × (T (writes_of b) ⊎ (T (reads_of b) × T (writes_of a)))
      go (write_write l f x y n) = (record { access = inl (at a (writes s a) (f ∙ e) x); none = none n }, inl (at b (writes s b) e y))
      go (write_read l f x y n) = (record { access = inl (at a (writes s a) (f ∙ e) x); none = none n }, inr (at b (reads s b) e y, at a (writes s a) (f ∙ e) x))
      go (read_write l f x y n) = (record { access = inr (at a (reads s a) (f ∙ e) x); none = none n }, inl (at b (writes s b) e y))

  -- "With p writes (at least 1) and q reads there are at most p − 1 + 2q entries."
  pub short-bound : 0 < length (cell_writes t s c) → length (cell_entries t s c) ≤ length (cell_writes t s c) - 1 + 2 * length (cell_reads t s c)
  short-bound = pairs-bound writes_of reads_of apart entries_of pair t.size
    where
      apart : (i : ℕ) → T (writes_of i) → T (reads_of i) → ⊥
      apart i h k =
          let x = both (s.is_access i) (s.is_write i) (both (writes s i) (eqb (s.cell i) c) h).0 in
          let y = both (s.is_access i) (not (s.is_write i)) (both (reads s i) (eqb (s.cell i) c) k).0 in
          T_not (s.is_write i) y.1 x.1

      pair : (a b : ℕ) → a < b → T (entries_of a b) → Free writes_of reads_of b a × (T (writes_of b) ⊎ (T (reads_of b) × T (writes_of a)))
      pair a b l h =
          let (p, q) = both (neighbour s a b && raceb t a b) (eqb (s.cell b) c) h in
          pair_of a b (eqb→eq (s.cell b) c q) ((neighbour-iff s a b).0 (both (neighbour s a b) (raceb t a b) p).0)
