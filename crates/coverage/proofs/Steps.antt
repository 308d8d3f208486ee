-- `leads b` by its first step, a direct order link or a conflict: what one pass from b down to the first record computes.
use Prim.Native.Nat.{ℕ, zero, suc, ◌+◌, ◌≤◌, ◌<◌}
use mathlib.Core.Path.{◌≡◌, sym, ap, ◌∙◌, subst}
use mathlib.Core.Logic.{◌≢◌, ◌⊎◌, inl, inr, ◌↔◌}
use mathlib.Core.Bool.{Bool}
use native.Mathlib.Omega.{arith}
use lib.Dec.{T}
use Rattle.coverage.specs.Setting.{Setting, Laws}
use Rattle.coverage.specs.Race.{before, Race}
use Rattle.coverage.specs.Leading.{leads}
use Rattle.slices.proofs.Tests.{decide, decide_eq, same}
use Rattle.coverage.proofs.Order.{before-le, race-apart, after}
use Rattle.coverage.proofs.Leads.{le-leads, leads-self, leads-below, leads-race, leads-ahead, leads-unfold}

module _ (t : Setting) (Link : ℕ → ℕ → Type 0) where
  pub record Links : Type 0 where
    pub sound : {u v : ℕ} → Link u v → T (t.le u v)
    pub first : (u w : ℕ) → T (t.le u w) → u ≢ w → (v : ℕ) × Link u v × T (t.le v w)

  -- links go on: each to another event action, which has a record
  pub record GoOn : Type 0 where
    pub apart : {u v : ℕ} → Link u v → u ≢ v
    pub begun : {u v : ℕ} → Link u v → (y : ℕ) × (y < t.size) × (t.ev y ≡ v)

  -- one step from u to what is in P: a link, or a conflict whose second stands before b
  abbrev pub Step : ℕ → (ℕ → Type 0) → ℕ → Type 0
  Step b P u = ((v : ℕ) × Link u v × P v) ⊎ ((c d : ℕ) × (t.ev c ≡ u) × (c < d) × (d < b) × T (t.conf c d) × P (t.ev d))

  -- the same, with a conflict into another event action only: it goes on in the trace
  abbrev pub Onward : ℕ → (ℕ → Type 0) → ℕ → Type 0
  Onward b P u = ((v : ℕ) × Link u v × P v) ⊎ ((c d : ℕ) × (t.ev c ≡ u) × (c < d) × (d < b) × T (t.conf c d) × (u ≢ t.ev d) × P (t.ev d))

  onward-step : {P : ℕ → Type 0} {b u : ℕ} → Onward b P u → Step b P u
  onward-step (inl s) = inl s
  onward-step (inr (c, d, e, l, m, f, n, h)) = inr (c, d, e, l, m, f, h)

module _ (t : Setting) (w : Laws t) (Link : ℕ → ℕ → Type 0) (ls : Links t Link) (b : ℕ) (in-trace : b < t.size) where
  abbrev Leading : ℕ → Type 0
  Leading u = T (leads t b u)

  pub leads-closed : (u : ℕ) → Step t Link b Leading u → Leading u
  leads-closed u (inl s) = leads-below t w b u s.0 (ls.sound s.1) s.2
  leads-closed u (inr (c, d, e, l, m, f, h)) = rw (sym e) (go (decide (before t c d)))
    where
      go : T (before t c d) ⊎ (T (before t c d) → ⊥) → Leading (t.ev c)
      go (inl k) = leads-below t w b (t.ev c) (t.ev d) (before-le t w c d k) h
      go (inr n) = leads-race t w b c d (record { first = l; inside = omega arith; conflict = f; unordered = n }) m h

  pub leads-onward : (u : ℕ) → u ≢ t.ev b → Leading u → Onward t Link b Leading u
  leads-onward u n h = go ((leads-unfold t w b u in-trace).0 h)
    where
      on : (c d : ℕ) → Race t c d → T (t.le u (t.ev c)) → d < b → Leading (t.ev d) → (u ≡ t.ev c) ⊎ (u ≢ t.ev c) → Onward t Link b Leading u
      on c d r k m h (inl e) = inr (c, d, sym e, r.first, m, r.conflict, λ f. race-apart t w c d r (sym e ∙ f), h)
      on c d r k m h (inr n) = let s = ls.first u (t.ev c) k n in inl (s.0, s.1, leads-below t w b s.0 (t.ev c) s.2 (leads-race t w b c d r m h))

      go : T (t.le u (t.ev b)) ⊎ ((c d : ℕ) × Race t c d × T (t.le u (t.ev c)) × (d < b) × Leading (t.ev d)) → Onward t Link b Leading u
      go (inl k) = let s = ls.first u (t.ev b) k n in inl (s.0, s.1, le-leads t w b s.0 s.2)
      go (inr (c, d, r, k, m, h)) = on c d r k m h (decide_eq u (t.ev c))

  pub leads-step : (u : ℕ) → u ≢ t.ev b → T (leads t b u) ↔ (((v : ℕ) × Link u v × T (leads t b v)) ⊎ ((c d : ℕ) × (t.ev c ≡ u) × (c < d) × (d < b) × T (t.conf c d) × T (leads t b (t.ev d))))
  leads-step u n = (λ h. onward-step t Link (leads-onward u n h), leads-closed u)

  module _ (gs : GoOn t Link) where
    -- a step from the event action of x goes to one that has a record after x
    onward-map : {P Q : ℕ → Type 0} (x : ℕ) → x < t.size → ((y : ℕ) → x < y → y < t.size → P (t.ev y) → Q (t.ev y)) → Onward t Link b P (t.ev x) → Onward t Link b Q (t.ev x)
    onward-map {P} {Q} x l f (inl (v, s, h)) = inl (v, s, go (gs.begun s))
      where
        go : (y : ℕ) × (y < t.size) × (t.ev y ≡ v) → Q v
        go (y, k, e) = subst Q e (f y (w.forward x y l k (subst (λ (z : ℕ). T (t.le (t.ev x) z)) (sym e) (ls.sound s)) (λ g. gs.apart s (g ∙ e))) k (subst P (sym e) h))
    onward-map x l f (inr (c, d, e, m, k, g, n, h)) = inr (c, d, e, m, k, g, n, f d (after t w x c d l e m (λ q. n (sym e ∙ q))) (omega arith) h)

    -- If P holds of ev(b), and elsewhere of what steps into Q, it holds of all Q: by recursion from the last record down.
    module _ (P Q : ℕ → Type 0) (base : P (t.ev b)) (step : (x : ℕ) → x < t.size → t.ev x ≢ t.ev b → Q (t.ev x) → Onward t Link b Q (t.ev x)) (closed : (x : ℕ) → x < t.size → t.ev x ≢ t.ev b → Q (t.ev x) → Onward t Link b P (t.ev x) → P (t.ev x)) where
      downward : (k x : ℕ) → t.size ≤ x + k → x < t.size → Q (t.ev x) → P (t.ev x)
      downward zero x l m h = absurd (omega arith)
      downward (suc k) x l m h = go (decide_eq (t.ev x) (t.ev b)) (downward k)
        where
          go : (t.ev x ≡ t.ev b) ⊎ (t.ev x ≢ t.ev b) → ((y : ℕ) → t.size ≤ y + k → y < t.size → Q (t.ev y) → P (t.ev y)) → P (t.ev x)
          go (inl e) f = subst P (sym e) base
          go (inr n) f = closed x m n h (onward-map {P = Q} {Q = P} x m (λ y q. f y (omega arith)) (step x m n h))

    -- leads b is the least: contained in every set of event actions that holds ev(b) and is closed under steps from before b
    pub least : (P : ℕ → Type 0) → P (t.ev b) → ((x : ℕ) → x < b → t.ev x ≢ t.ev b → Onward t Link b P (t.ev x) → P (t.ev x)) → (x : ℕ) → x < t.size → T (leads t b (t.ev x)) → P (t.ev x)
    least P base closed x = downward P Leading base (λ y l n h. leads-onward (t.ev y) n h) (λ y l n h. closed y (leads-ahead t w b y in-trace l n h) n) t.size x (omega arith)

    -- and the only one that holds of ev(b), before b of just what steps into it, and of nothing that begins after b
    pub leads-only : (f : ℕ → Bool) → T (f (t.ev b)) → ((x : ℕ) → x < b → t.ev x ≢ t.ev b → T (f (t.ev x)) ↔ Onward t Link b (λ v. T (f v)) (t.ev x)) → ((x : ℕ) → b < x → x < t.size → t.ev x ≢ t.ev b → T (f (t.ev x)) → ⊥) → (x : ℕ) → x < t.size → f (t.ev x) ≡ leads t b (t.ev x)
    leads-only f own steps beyond x l = same (f (t.ev x)) (leads t b (t.ev x)) (downward Leading F (leads-self t w b) (λ y k n h. (steps y (below y k n h) n).0 h) (λ y k n h s. leads-closed (t.ev y) (onward-step t Link {P = Leading} s)) t.size x (omega arith) l) (least F own (λ y k n. (steps y k n).1) x l)
      where
        F : ℕ → Type 0
        F v = T (f v)

        below : (y : ℕ) → y < t.size → t.ev y ≢ t.ev b → T (f (t.ev y)) → y < b
        below y k n h = go (decide_eq y b)
          where
            go : (y ≡ b) ⊎ (y ≢ b) → y < b
            go (inl e) = absurd (n (ap t.ev e))
            go (inr d) = let g : b < y → ⊥ = λ (m : b < y). beyond y m k n h in omega (arith, g)
