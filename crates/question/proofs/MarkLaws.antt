-- The marks taken down the records are what happens before. Assumes nothing.
use Prim.Native.Nat.{ℕ, zero, suc, ◌≤◌, ◌<◌}
use mathlib.Core.Path.{◌≡◌, refl, sym, ◌∙◌, ap, subst, fun_ext}
use mathlib.Core.Logic.{◌≢◌, ◌⊎◌, inl, inr}
use mathlib.Core.Bool.{Bool, ◌&&◌}
use native.Mathlib.Omega.{arith}
use lib.Dec.{T, eqb, eqb→eq}
use Rattle.order.specs.Links.{Links, Forward, ◌⊢◌≼◌, same, step, leq}
use Rattle.order.specs.Chains.{pick, lasts, chain}
use Rattle.ranks.specs.declared.Ordering.{Ordering}
use Rattle.ranks.specs.declared.Ordering.TheVariants.{Link, Begin, Nothing}
use Rattle.order.specs.loops.Standing.{begins, Ordered, Makes}
use Rattle.question.specs.loops.Marking.{mark_by, marks_down, marks}
use Rattle.slices.proofs.Tests.{both, and, either, or_left, or_right, decide_eq, eq→eqb, same as equal-tests, decide-lt}
use Rattle.order.proofs.OrderLaws.{≼_trans, ≼-first, ≼-forward, ≼→leq, leq→≼}
use Rattle.order.proofs.ScheduleLaws.{begins-zero, begins-suc, begins-mono, link-between, link-after}

-- marks stay
mark-stays : (o : Ordering) (m : ℕ → Bool) (t : ℕ) → T (m t) → T (mark_by o m t)
unfolding mark_by
mark-stays (Link p v) m t h = or_left (m t) (m v && eqb p t) h
mark-stays (Begin v) m t h = h
mark-stays Nothing m t h = h

-- a link whose later end is marked
mark-link : (p v : ℕ) (m : ℕ → Bool) → T (m v) → T (mark_by (Link p v) m p)
unfolding mark_by
mark-link p v m h = or_right (m p) (m v && eqb p p) (and (m v) (eqb p p) h (eq→eqb p p refl))

module _ (l : Links) (fw : Forward l) (op : ℕ → Ordering) (n : ℕ) (w : Ordered op n) (makes : Makes op n l) (u : ℕ) (begun : u < begins op n) where
  -- no mark but of what happens before u
  abbrev Sound : (ℕ → Bool) → Type 0
  Sound m = (t : ℕ) → T (m t) → l ⊢ t ≼ u

  sound-by : (i : ℕ) (o : Ordering) (m : ℕ → Bool) → i < n → op i ≡ o → Sound m → Sound (mark_by o m)
  unfolding mark_by
  sound-by i (Link p v) m h e f t k = go (either (m t) (m v && eqb p t) k)
    where
      go : T (m t) ⊎ T (m v && eqb p t) → l ⊢ t ≼ u
      go (inl a) = f t a
      go (inr a) =
          let b = both (m v) (eqb p t) a in
          let c = f v b.0 in
          ≼_trans l (step (same (sym (eqb→eq p t b.1))) ((makes p v (omega (arith, ≼-forward l fw c, begun))).1 (i, h, e))) c
  sound-by i (Begin v) m h e f t k = f t k
  sound-by i Nothing m h e f t k = f t k

  sound-down : (i : ℕ) (m : ℕ → Bool) → i ≤ n → Sound m → Sound (marks_down op i m)
  unfolding marks_down
  sound-down zero m h f = f
  sound-down (suc i) m h f = sound-down i (mark_by (op i) m) (omega arith) (sound-by i (op i) m h refl f)

  -- u is marked, and so is the earlier end of every link from i on whose later end happens before u
  pub record Complete (i : ℕ) (m : ℕ → Bool) : Type 0 where
    pub own : T (m u)
    pub linked : (j t v : ℕ) → i ≤ j → j < n → op j ≡ Link t v → l ⊢ v ≼ u → T (m t)

  -- so what has not begun before record i is marked, if it happens before u: its links out stand from there on
  complete-at : (i : ℕ) (m : ℕ → Bool) → Complete i m → (t : ℕ) → begins op i ≤ t → l ⊢ t ≼ u → T (m t)
  complete-at i m f t k h = go (decide_eq t u)
    where
      from : (j v : ℕ) → j < n → op j ≡ Link t v → (j < i) ⊎ (i ≤ j) → i ≤ j
      from j v a e (inl b) = absurd (omega (arith, begins-mono op j i (omega arith), (link-between op n w j t v a e).0))
      from j v a e (inr b) = b

      go : (t ≡ u) ⊎ (t ≢ u) → T (m t)
      go (inl e) = subst (λ x. T (m x)) (sym e) f.own
      go (inr d) =
          let r = ≼-first l h d in
          let s = (makes t r.0 (omega (arith, ≼-forward l fw r.2, begun))).0 r.1 in
          f.linked s.0 t r.0 (from s.0 r.0 s.1 s.2 (decide-lt s.0 i)) s.1 s.2 r.2

  complete-by : (i : ℕ) (m : ℕ → Bool) → i < n → Complete (suc i) m → Complete i (mark_by (op i) m)
  complete-by i m h f = record { own = mark-stays (op i) m u f.own; linked = λ j t v a b e k. linked j t v a b e k (decide_eq i j) }
    where
      here : (t v : ℕ) → op i ≡ Link t v → l ⊢ v ≼ u → T (mark_by (op i) m t)
      here t v e k =
          let b = begins-suc op i (Link t v) e in
          rw e (mark-link t v m (complete-at (suc i) m f v (omega (arith, (link-between op n w i t v h e).1)) k))

      linked : (j t v : ℕ) → i ≤ j → j < n → op j ≡ Link t v → l ⊢ v ≼ u → (i ≡ j) ⊎ (i ≢ j) → T (mark_by (op i) m t)
      linked j t v a b e k (inl d) = here t v (ap op d ∙ e) k
      linked j t v a b e k (inr d) = mark-stays (op i) m t (f.linked j t v (omega arith) b e k)

  complete-down : (i : ℕ) (m : ℕ → Bool) → i ≤ n → Complete i m → Complete 0 (marks_down op i m)
  unfolding marks_down
  complete-down zero m h f = f
  complete-down (suc i) m h f = complete-down i (mark_by (op i) m) (omega arith) (complete-by i m h f)

  -- from any record on after which no link leads to u or to what begins before it
  pub marks-leq : (i : ℕ) → i ≤ n → ((j p v : ℕ) → i ≤ j → j < n → op j ≡ Link p v → u < v) → (t : ℕ) → marks op i u t ≡ leq l t u
  marks-leq i h late t =
      equal-tests (marks op i u t) (leq l t u)
      (λ k. ≼→leq l fw (sound-down i (eqb u) h (λ v a. same (sym (eqb→eq u v a))) t k))
      (λ k. complete-at 0 (marks op i u) (complete-down i (eqb u) h first) t (omega (arith, begins-zero op)) (leq→≼ l fw t u k))
    where
      first : Complete i (eqb u)
      first = record { own = eq→eqb u u refl; linked = λ j p v a b e k. absurd (omega (arith, late j p v a b e, ≼-forward l fw k)) }

  -- from u's begin on
  pub marks_begin : (i : ℕ) → i < n → op i ≡ Begin u → (t : ℕ) → marks op i u t ≡ leq l t u
  marks_begin i h e = marks-leq i (omega arith) (link-after op n w i u e)

  -- so the chain of u is read off the marks
  pub chain-marks : (i : ℕ) → i < n → op i ≡ Begin u → chain (leq l) u ≡ pick (marks op i u) (lasts (leq l) u)
  unfolding chain
  chain-marks i h e = ap (λ q. pick q (lasts (leq l) u)) (fun_ext (λ m. sym (marks_begin i h e m)))
