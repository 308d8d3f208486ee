-- Begins and links as the records go on. Assumes nothing.
use Prim.Native.Nat.{ℕ, zero, suc, ◌≤◌, ◌<◌}
use mathlib.Core.Path.{◌≡◌, refl, sym, ◌∙◌, ap, subst}
use mathlib.Core.Logic.{◌≢◌, ◌⊎◌, inl, inr, ◌↔◌}
use mathlib.Core.Bool.{Bool, true, false, cond}
use mathlib.Core.List.Memᴰ
use mathlib.Core.List.{List, ◌∷◌}
use native.Mathlib.Omega.{arith}
use lib.Dec.{eqb}
use borrow.Author.Tests.{eq-eqb, ne_eqb}
use Rattle.order.specs.Links.{Forward, ◌∈◌}
use Rattle.ranks.specs.declared.Ordering.{Ordering}
use Rattle.ranks.specs.declared.Ordering.TheVariants.{Link, Begin, Nothing}
use Rattle.order.specs.Schedule.{linked_by, linked, links_of}
use Rattle.order.specs.loops.Standing.{begins_by, begins, Stands, Ordered, Makes}
use Rattle.slices.proofs.Tests.{decide_eq, rises}

module _ (op : ℕ → Ordering) where
  pub begins-zero : begins op 0 ≡ 0
  unfolding begins
  begins-zero = refl

  pub begins-suc : (i : ℕ) (o : Ordering) → op i ≡ o → begins op (suc i) ≡ begins_by o (begins op i)
  unfolding begins
  begins-suc i o e = ap (λ x. begins_by x (begins op i)) e

  pub linked-suc : (i u : ℕ) (o : Ordering) → op i ≡ o → linked op (suc i) u ≡ linked_by o u (linked op i u)
  unfolding linked
  linked-suc i u o e = ap (λ x. linked_by x u (linked op i u)) e

  begins-step : (i : ℕ) (o : Ordering) → op i ≡ o → begins op i ≤ begins op (suc i)
  begins-step i (Link p u) e = omega (arith, begins-suc i (Link p u) e)
  begins-step i (Begin u) e = omega (arith, begins-suc i (Begin u) e)
  begins-step i Nothing e = omega (arith, begins-suc i Nothing e)

  pub begins-mono : (i j : ℕ) → i ≤ j → begins op i ≤ begins op j
  begins-mono = rises (begins op) (λ i. begins-step i (op i) refl)

  -- records stand in order one by one
  pub ordered-zero : Ordered op 0
  ordered-zero i h = absurd (omega arith)

  pub ordered-suc : (n : ℕ) → Ordered op n → Stands (begins op n) (op n) → Ordered op (suc n)
  ordered-suc n w s i h = go (decide_eq i n)
    where
      go : (i ≡ n) ⊎ (i ≢ n) → Stands (begins op i) (op i)
      go (inl e) = rw e s
      go (inr k) = w i (omega arith)

  pub begin-next : (n : ℕ) → Ordered op n → (i u : ℕ) → i < n → op i ≡ Begin u → u ≡ begins op i
  begin-next n w i u h e = subst (Stands (begins op i)) e (w i h)

  pub link-between : (n : ℕ) → Ordered op n → (i p u : ℕ) → i < n → op i ≡ Link p u → (p < begins op i) × (begins op i ≤ u)
  link-between n w i p u h e = subst (Stands (begins op i)) e (w i h)

  -- from u's begin on, links lead to what begins after u
  pub link-after : (n : ℕ) → Ordered op n → (i u : ℕ) → op i ≡ Begin u → (j p v : ℕ) → i ≤ j → j < n → op j ≡ Link p v → u < v
  link-after n w i u e j p v h k f = go (decide_eq i j)
    where
      go : (i ≡ j) ⊎ (i ≢ j) → u < v
      go (inl d) = absurd (let x : op i ≡ Link p v = ap op d ∙ f in let z : ◌≡◌ {A = ℕ} 0 1 = cc (x, e) in omega arith)
      go (inr d) =
          let b = begin-next n w i u (omega arith) e in
          omega (arith, begins-suc i (Begin u) e, begins-mono (suc i) j (omega arith), (link-between n w j p v k f).1)

  abbrev Made : ℕ → ℕ → ℕ → Type 0
  Made n p u = (i : ℕ) × (i < n) × (op i ≡ Link p u)

  later : (n p u : ℕ) → Made n p u → Made (suc n) p u
  later n p u r = (r.0, omega (arith, r.1), r.2)

  -- `linked` has the links that the records make, and no other
  linked-made : (n p u : ℕ) → p ∈ linked op n u → Made n p u
  unfolding linked
  linked-made zero p u m = absurd (Memᴰ.not-nil m)
  linked-made (suc n) p u m = go (op n) refl m (linked-made n p u)
    where
      own : (q : ℕ) → op n ≡ Link q u → (p ∈ linked op n u → Made n p u) → p ∈ q ∷ linked op n u → Made (suc n) p u
      own q e f (Memᴰ.head i) = (n, omega arith, e ∙ ap (λ x. Link x u) (sym i))
      own q e f (Memᴰ.tail k) = later n p u (f k)

      choice :
          (q v : ℕ) → op n ≡ Link q v → (v ≡ u) ⊎ (v ≢ u) →
          p ∈ linked_by (Link q v) u (linked op n u) → (p ∈ linked op n u → Made n p u) → Made (suc n) p u
      choice q v e (inl i) k f = own q (e ∙ ap (Link q) i) f (rw (eq-eqb v u i) at k)
      choice q v e (inr i) k f = later n p u (f (rw (ne_eqb v u i) at k))

      go : (o : Ordering) → op n ≡ o → p ∈ linked_by o u (linked op n u) → (p ∈ linked op n u → Made n p u) → Made (suc n) p u
      go (Link q v) e k f = choice q v e (decide_eq v u) k f
      go (Begin v) e k f = later n p u (f k)
      go Nothing e k f = later n p u (f k)

  keeps : (p u : ℕ) (o : Ordering) (ps : List ℕ) → p ∈ ps → p ∈ linked_by o u ps
  keeps p u (Link q v) ps m = go (eqb v u)
    where
      go : (b : Bool) → p ∈ cond b (q ∷ ps) ps
      go true = Memᴰ.tail m
      go false = m
  keeps p u (Begin v) ps m = m
  keeps p u Nothing ps m = m

  made-linked : (n p u : ℕ) → Made n p u → p ∈ linked op n u
  made-linked zero p u r = absurd (omega (arith, r.1))
  made-linked (suc n) p u r = go (decide_eq r.0 n) (made-linked n p u)
    where
      go : (r.0 ≡ n) ⊎ (r.0 ≢ n) → (Made n p u → p ∈ linked op n u) → p ∈ linked op (suc n) u
      go (inl e) f = rw (linked-suc n u (Link p u) (ap op (sym e) ∙ r.2), eq-eqb u u refl) (Memᴰ.head refl)
      go (inr k) f = keep (f (r.0, omega (arith, r.1, k), r.2))
        where
          keep : p ∈ linked op n u → p ∈ linked op (suc n) u
          keep m = rw (linked-suc n u (op n) refl) (keeps p u (op n) (linked op n u) m)

  pub linked-exact : (n p u : ℕ) → (p ∈ linked op n u) ↔ ((i : ℕ) × (i < n) × (op i ≡ Link p u))
  linked-exact n p u = (linked-made n p u, made-linked n p u)

  pub links-made : (n : ℕ) → Makes op n (links_of op n)
  links-made n p u h = linked-exact n p u

  pub links-forward : (n : ℕ) → Ordered op n → Forward (links_of op n)
  links-forward n w u p m =
      let r = linked-made n p u m in
      let k = link-between n w r.0 p u r.1 r.2 in
      omega (arith, k.0, k.1)
