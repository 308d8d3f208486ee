-- Rows of sets: a set that has of each chain the first members is told by its row; the row of a union is the entrywise maximum. Assumes nothing.
use Prim.Native.Nat.{ℕ, suc, ◌+◌, ◌≤◌, ◌<◌, max}
use mathlib.Core.Path.{◌≡◌, refl, sym, ◌∙◌, ap, ap₂}
use mathlib.Core.Logic.{◌⊎◌, inl, inr, ◌↔◌}
use mathlib.Core.Bool.{Bool, false, ◌||◌}
use mathlib.Core.List.Memᴰ
use mathlib.Core.List.{List, [], ◌∷◌}
use native.Mathlib.Omega.{arith}
use lib.Dec.{T, eqb, eqb→eq, eqb_refl}
use Rattle.order.specs.Links.{Links, Forward, ◌∈◌, some}
use Rattle.order.specs.Chains.{bit, count}
use Rattle.order.specs.Clocks.{largest}
use Rattle.order.specs.loops.Sets.{is_in, row, index, Initial, entry_by, merged_with, Family}
use Rattle.slices.proofs.Tests.{both, and, either, or_left, or_right, decide, eq→eqb, same as equal-tests, decide-lt, smaller}
use Rattle.order.proofs.AlongLaws.{Local, along-law}
use Rattle.order.proofs.OrderLaws.{found, find}
use Rattle.order.proofs.CountLaws.{count_yes, count-mono, count_none, Last, count-last}

-- the largest value in a list

pub largest-in : (ps : List ℕ) (f : ℕ → ℕ) (p : ℕ) → p ∈ ps → f p ≤ largest ps f
unfolding largest
largest-in [] f p m = elim m [ ]
largest-in (x ∷ ps) f p (Memᴰ.head e) = let i : f p ≡ f x = ap f e in omega arith
largest-in (x ∷ ps) f p (Memᴰ.tail m) = omega (arith, largest-in ps f p m)

pub largest-le : (ps : List ℕ) (f : ℕ → ℕ) (b : ℕ) → ((p : ℕ) → p ∈ ps → f p ≤ b) → largest ps f ≤ b
unfolding largest
largest-le [] f b h = omega arith
largest-le (x ∷ ps) f b h = omega (arith, h x (Memᴰ.head refl), largest-le ps f b (λ p m. h p (Memᴰ.tail m)))

pub largest-local : (ps : List ℕ) (r s : ℕ → ℕ) → ((p : ℕ) → p ∈ ps → r p ≡ s p) → largest ps r ≡ largest ps s
unfolding largest
largest-local [] r s e = refl
largest-local (x ∷ ps) r s e = ap₂ max (e x (Memᴰ.head refl)) (largest-local ps r s (λ p m. e p (Memᴰ.tail m)))

module _ (ch : ℕ → ℕ) where
  of-is_in : (p : ℕ → Bool) (c t : ℕ) → T (is_in ch p c t) → (ch t ≡ c) × T (p t)
  of-is_in p c t h = let r = both (eqb (ch t) c) (p t) h in (eqb→eq (ch t) c r.0, r.1)

  is-is_in : (p : ℕ → Bool) (c t : ℕ) → ch t ≡ c → T (p t) → T (is_in ch p c t)
  is-is_in p c t e h = and (eqb (ch t) c) (p t) (eq→eqb (ch t) c e) h

  pub row_count : (p : ℕ → Bool) (n c : ℕ) → row ch p n c ≡ count (is_in ch p c) n
  unfolding row
  row_count p n c = refl

  -- where the members of c in one set are in another
  pub row-mono : (p q : ℕ → Bool) (n k c : ℕ) → ((s : ℕ) → s < n → ch s ≡ c → T (p s) → (s < k) × T (q s)) → row ch p n c ≤ row ch q k c
  unfolding row
  row-mono p q n k c f = count-mono (is_in ch p c) (is_in ch q c) n k (λ s h b.
      let d = of-is_in p c s b in
      let r = f s h d.0 d.1 in
      (r.0, is-is_in q c s d.0 r.1))

  -- the bound does not matter past the last element
  pub row-bound : (p : ℕ → Bool) (n k c : ℕ) → n ≤ k → ((s : ℕ) → s < k → T (p s) → s < n) → row ch p k c ≡ row ch p n c
  row-bound p n k c h f = omega (arith, row-mono p p n k c (λ s a e b. (omega arith, b)), row-mono p p k n c (λ s a e b. (f s a b, b)))

  -- sets with the same elements
  pub row_same : (p q : ℕ → Bool) (n c : ℕ) → ((s : ℕ) → s < n → T (p s) ↔ T (q s)) → row ch p n c ≡ row ch q n c
  row_same p q n c f = omega (arith, row-mono p q n n c (λ s a e b. (a, (f s a).0 b)), row-mono q p n n c (λ s a e b. (a, (f s a).1 b)))

  -- one more, at its own chain
  pub row-own : (q : ℕ → Bool) (u c : ℕ) → T (q u) → row ch q (suc u) c ≡ row ch q u c + bit (eqb (ch u) c)
  unfolding row count
  row-own q u c h = ap (λ b. count (is_in ch q c) u + bit b) (equal-tests (is_in ch q c u) (eqb (ch u) c) (λ k. (both (eqb (ch u) c) (q u) k).0) (λ k. and (eqb (ch u) c) (q u) k h))

  -- The set is told by its row: t is in it exactly where t's own entry is at most the row's entry at t's chain.
  pub row-decides : (p : ℕ → Bool) (n : ℕ) → Initial ch n p → (t : ℕ) → ((t < n) × T (p t)) ↔ (index ch t ≤ row ch p n (ch t))
  unfolding row index
  row-decides p n f t = (λ (a, h). up a h, λ h. down h (decide-lt t n) (decide (p t)))
    where
      mine : ℕ → Bool
      mine s = eqb (ch s) (ch t)

      up : t < n → T (p t) → count mine (suc t) ≤ count (is_in ch p (ch t)) n
      up a h = count-mono mine (is_in ch p (ch t)) (suc t) n (λ s b k. let e = eqb→eq (ch s) (ch t) k in (omega arith, is-is_in p (ch t) s e (f s t (omega arith) a e h)))

      -- where every element is before t
      fewer : ((s : ℕ) → s < n → ch s ≡ ch t → T (p s) → s < t) → count (is_in ch p (ch t)) n < count mine (suc t)
      fewer g = omega (arith, count_yes mine t (eqb_refl (ch t)), count-mono (is_in ch p (ch t)) mine n t (λ s a b. let d = of-is_in p (ch t) s b in (g s a d.0 d.1, eq→eqb (ch s) (ch t) d.0)))

      early : (T (p t) → ⊥) → (s : ℕ) → s < n → ch s ≡ ch t → T (p s) → (s < t) ⊎ (t ≤ s) → s < t
      early m s a e h (inl k) = k
      early m s a e h (inr k) = absurd (m (f t s k a (sym e) h))

      down : count mine (suc t) ≤ count (is_in ch p (ch t)) n → (t < n) ⊎ (n ≤ t) → T (p t) ⊎ (T (p t) → ⊥) → (t < n) × T (p t)
      down h (inl a) (inl b) = (a, b)
      down h (inl a) (inr m) = absurd (omega (arith, fewer (λ s a e k. early m s a e k (decide-lt s t))))
      down h (inr a) b = absurd (omega (arith, fewer (λ s b e k. omega arith)))

  -- The row of a union is the entrywise maximum.
  pub row_union : (p q : ℕ → Bool) (n : ℕ) → Initial ch n p → Initial ch n q → (c : ℕ) → row ch (λ t. p t || q t) n c ≡ max (row ch p n c) (row ch q n c)
  row_union p q n f g c = omega (arith, row-mono p either-of n n c (λ s a e b. (a, or_left (p s) (q s) b)), row-mono q either-of n n c (λ s a e b. (a, or_right (p s) (q s) b)), most)
    where
      either-of : ℕ → Bool
      either-of t = p t || q t

      -- up to an element of one set, all members are in that set
      all : (r : ℕ → Bool) → Initial ch n r → (t : ℕ) → t < n → ch t ≡ c → T (r t) → row ch either-of (suc t) c ≤ row ch r n c
      all r i t a e h = row-mono either-of r (suc t) n c (λ s b k z. (omega arith, i s t (omega arith) a (k ∙ sym e) h))

      go : Last (is_in ch either-of c) n → row ch either-of n c ≤ max (row ch p n c) (row ch q n c)
      go (inl e) = omega (arith, row_count either-of n c)
      go (inr (t, a, k, e)) = let (x, y) = of-is_in either-of c t k in at x (either (p t) (q t) y)
        where
          at : ch t ≡ c → T (p t) ⊎ T (q t) → row ch either-of n c ≤ max (row ch p n c) (row ch q n c)
          at x (inl h) = omega (arith, e, row_count either-of n c, row_count either-of (suc t) c, all p f t a x h)
          at x (inr h) = omega (arith, e, row_count either-of n c, row_count either-of (suc t) c, all q g t a x h)

      most : row ch either-of n c ≤ max (row ch p n c) (row ch q n c)
      most = go (count-last (is_in ch either-of c) n)

  initial-some : (n : ℕ) (q : ℕ → ℕ → Bool) (ps : List ℕ) → ((v : ℕ) → v ∈ ps → Initial ch n (q v)) → Initial ch n (λ t. some (λ v. q v t) ps)
  initial-some n q ps f s t a b e h = let (w, m, k) = found (λ v. q v t) ps h in find (λ v. q v s) ps w m (f w m s t a b e k)

  -- and of a union over a list the largest
  pub row-largest : (n : ℕ) (q : ℕ → ℕ → Bool) (ps : List ℕ) → ((v : ℕ) → v ∈ ps → Initial ch n (q v)) → (c : ℕ) → row ch (λ t. some (λ v. q v t) ps) n c ≡ largest ps (λ v. row ch (q v) n c)
  unfolding some largest
  row-largest n q [] f c = row_count (λ t. false) n c ∙ count_none (is_in ch (λ t. false) c) n (λ s a b. (of-is_in (λ t. false) c s b).1)
  row-largest n q (v ∷ ps) f c = row_union (q v) (λ t. some (λ v. q v t) ps) n (f v (Memᴰ.head refl)) (initial-some n q ps (λ w m. f w (Memᴰ.tail m))) c ∙ ap (max (row ch (q v) n c)) (row-largest n q ps (λ w m. f w (Memᴰ.tail m)) c)

-- Sets that are closed downwards in an order, by which the members of each chain are ordered, are initial.
pub initial-closed : (ch : ℕ → ℕ) (le : ℕ → ℕ → Bool) (n : ℕ) → ((s t : ℕ) → s ≤ t → t < n → ch s ≡ ch t → T (le s t)) → (p : ℕ → Bool) → ((s t : ℕ) → T (le s t) → T (p t) → T (p s)) → Initial ch n p
initial-closed ch le n f p g s t a b e h = g s t (f s t a b e) h

-- filling along the links, over any chain function
pub entry-by : (ch : ℕ → ℕ) (l : Links) → Forward l → (u c : ℕ) → entry_by ch l u c ≡ largest (l.preds u) (λ p. entry_by ch l p c) + bit (eqb (ch u) c)
unfolding entry_by
entry-by ch l fw u c = along-law l fw 0 (λ v r. largest (l.preds v) r + bit (eqb (ch v) c)) local u
  where
    local : Local l (λ v r. largest (l.preds v) r + bit (eqb (ch v) c))
    local v r s e = ap (λ x. x + bit (eqb (ch v) c)) (largest-local (l.preds v) r s e)

module _ (m : ℕ) (ch : ℕ → ℕ) (W : ℕ → ℕ → Bool) (f : Family m ch W) where
  -- the entry of u's row at chain c
  abbrev pub row_of : ℕ → ℕ → ℕ
  row_of u c = row ch (W u) (suc u) c

  initial-to : (u n : ℕ) → u < m → n ≤ m → Initial ch n (W u)
  initial-to u n i j s t a b e h = f.initial u i s t a (omega arith) e h

  -- t is in the set of u exactly where t's own entry is at most that of u's row at t's chain
  pub family-decides : (u t : ℕ) → u < m → t < m → T (W u t) ↔ (index ch t ≤ row ch (W u) (suc u) (ch t))
  family-decides u t i j = (λ h. r.0 (omega (arith, f.ahead u t i j h), h), λ h. (r.1 h).1)
    where
      r : ((t < suc u) × T (W u t)) ↔ (index ch t ≤ row ch (W u) (suc u) (ch t))
      r = row-decides ch (W u) (suc u) (initial-to u (suc u) i i) t

  -- t's own entry is its row's entry at its chain
  most-own : (t : ℕ) → row ch (W t) (suc t) (ch t) ≤ index ch t
  unfolding row index
  most-own t = count-mono (is_in ch (W t) (ch t)) (λ s. eqb (ch s) (ch t)) (suc t) (suc t) (λ s a b. (a, (both (eqb (ch s) (ch t)) (W t s) b).0))

  pub own-entry : (t : ℕ) → t < m → row ch (W t) (suc t) (ch t) ≡ index ch t
  own-entry t i = omega (arith, (family-decides t t i i).0 (f.self t i), most-own t)

  -- What merging rows makes. Of a set that is the union of the sets of a list:
  row-sets : (n : ℕ) (ps : List ℕ) → n ≤ m → ((p : ℕ) → p ∈ ps → p < n) → (c : ℕ) → row ch (λ t. some (λ p. W p t) ps) n c ≡ largest ps (λ p. row ch (W p) (suc p) c)
  row-sets n ps j g c = row-largest ch n W ps (λ p k. initial-to p n (omega (arith, g p k)) j) c ∙ largest-local ps (λ p. row ch (W p) n c) (λ p. row ch (W p) (suc p) c) (λ p k. row-bound ch (W p) (suc p) n c (g p k) (λ s a h. omega (arith, f.ahead p s (omega (arith, g p k)) (omega arith) h)))

  of_some : (ps : List ℕ) (s : ℕ) → T (some (λ p. W p s) ps) ↔ ((p : ℕ) × (p ∈ ps) × T (W p s))
  of_some ps s = (found (λ p. W p s) ps, λ (p, k, h). find (λ p. W p s) ps p k h)

  pub row_made : (q : ℕ → Bool) (n : ℕ) (ps : List ℕ) → n ≤ m → ((p : ℕ) → p ∈ ps → p < n) → ((s : ℕ) → s < n → T (q s) ↔ ((p : ℕ) × (p ∈ ps) × T (W p s))) → (c : ℕ) → row ch q n c ≡ largest ps (λ p. row ch (W p) (suc p) c)
  row_made q n ps j g e c = row_same ch q (λ t. some (λ p. W p t) ps) n c (λ s a. (λ h. (of_some ps s).1 ((e s a).0 h), λ h. (e s a).1 ((of_some ps s).0 h))) ∙ row-sets n ps j g c

  -- of what a set r and the sets of a list make together: the largest of all their rows
  pub row-merge : (q r : ℕ → Bool) (n : ℕ) (ps : List ℕ) → n ≤ m → ((p : ℕ) → p ∈ ps → p < n) → Initial ch n r → ((s : ℕ) → s < n → T (q s) ↔ (T (r s) ⊎ ((p : ℕ) × (p ∈ ps) × T (W p s)))) → (c : ℕ) → row ch q n c ≡ max (row ch r n c) (largest ps (λ p. row ch (W p) (suc p) c))
  row-merge q r n ps j g i e c = row_same ch q (λ t. r t || some (λ p. W p t) ps) n c (λ s a. (λ h. there s ((e s a).0 h), λ h. (e s a).1 (back s (either (r s) (some (λ p. W p s) ps) h)))) ∙ row_union ch r (λ t. some (λ p. W p t) ps) n i (initial-some ch n W ps (λ p k. initial-to p n (omega (arith, g p k)) j)) c ∙ ap (max (row ch r n c)) (row-sets n ps j g c)
    where
      there : (s : ℕ) → T (r s) ⊎ ((p : ℕ) × (p ∈ ps) × T (W p s)) → T (r s || some (λ p. W p s) ps)
      there s (inl h) = or_left (r s) (some (λ p. W p s) ps) h
      there s (inr h) = or_right (r s) (some (λ p. W p s) ps) ((of_some ps s).1 h)

      back : (s : ℕ) → T (r s) ⊎ T (some (λ p. W p s) ps) → T (r s) ⊎ ((p : ℕ) × (p ∈ ps) × T (W p s))
      back s (inl h) = inl h
      back s (inr h) = inr ((of_some ps s).0 h)

  -- where v is in r already, and r has all of v's set with v, merging v's row changes nothing
  pub row-absorbs : (r : ℕ → Bool) (n v : ℕ) → v < m → Initial ch n r → (T (r v) → v < n → (s : ℕ) → s < suc v → T (W v s) → T (r s)) → index ch v ≤ row ch r n (ch v) → (c : ℕ) → max (row ch r n c) (row ch (W v) (suc v) c) ≡ row ch r n c
  row-absorbs r n v i g k h c = let (a, b) = (row-decides ch r n g v).1 h in omega (arith, row-mono ch (W v) r (suc v) n c (λ s x e w. (omega arith, k b a s x w)))

  -- of what u and the sets of its direct predecessors make together: the largest of their rows, 1 more at u's chain
  pub row-start : (q : ℕ → Bool) (u : ℕ) (ps : List ℕ) → u < m → ((p : ℕ) → p ∈ ps → p < u) → ((s : ℕ) → s < suc u → T (q s) ↔ ((s ≡ u) ⊎ ((p : ℕ) × (p ∈ ps) × T (W p s)))) → (c : ℕ) → row ch q (suc u) c ≡ largest ps (λ p. row ch (W p) (suc p) c) + bit (eqb (ch u) c)
  row-start q u ps i g e c = row-own ch q u c ((e u (omega arith)).1 (inl refl)) ∙ ap (λ x. x + bit (eqb (ch u) c)) (row_made q u ps (omega arith) g (λ s a. (λ h. there s a ((e s (omega arith)).0 h), λ h. (e s (omega arith)).1 (inr h))) c)
    where
      there : (s : ℕ) → s < u → (s ≡ u) ⊎ ((p : ℕ) × (p ∈ ps) × T (W p s)) → (p : ℕ) × (p ∈ ps) × T (W p s)
      there s a (inl z) = absurd (omega arith)
      there s a (inr h) = h

  -- The clock theorem: filling along the links makes the rows of the sets that are made along the links.
  module _ (l : Links) (fw : Forward l) (step : (u t : ℕ) → u < m → t < m → T (W u t) ↔ ((t ≡ u) ⊎ ((p : ℕ) × (p ∈ l.preds u) × T (W p t)))) where
    pub clock-by : (u : ℕ) → u < m → (c : ℕ) → entry_by ch l u c ≡ row ch (W u) (suc u) c
    clock-by = smaller (λ u. u < m → (c : ℕ) → entry_by ch l u c ≡ row ch (W u) (suc u) c) (λ u ih i c. entry-by ch l fw u c ∙ ap (λ x. x + bit (eqb (ch u) c)) (largest-local (l.preds u) (λ p. entry_by ch l p c) (λ p. row ch (W p) (suc p) c) (λ p k. ih p (fw u p k) (omega (arith, fw u p k)) c)) ∙ sym (row-start (W u) u (l.preds u) i (fw u) (λ s a. step u s i (omega arith)) c))

    -- before 1 is added
    pub merged_by : (u : ℕ) → u < m → (c : ℕ) → merged_with ch l u c ≡ row ch (W u) u c
    merged_by u i c = omega (arith, entry-by ch l fw u c, clock-by u i c, row-own ch (W u) u c (f.self u i))
