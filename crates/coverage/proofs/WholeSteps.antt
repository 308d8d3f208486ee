-- The sets of the cover clocks by one step: from the direct predecessors' sets and the sets of the firsts of edges. So the mark of a race.
use Prim.Native.Nat.{ℕ, zero, suc, ◌+◌, ◌≤◌, ◌<◌}
use mathlib.Core.Path.{◌≡◌, refl, sym, ◌∙◌, subst}
use mathlib.Core.Logic.{◌≢◌, ◌⊎◌, inl, inr, ◌↔◌}
use native.Mathlib.Omega.{arith}
use lib.Dec.{T}
use Rattle.coverage.specs.Setting.{Setting, Laws}
use Rattle.coverage.specs.Race.{Race}
use Rattle.coverage.specs.Leading.{leads, coveredb}
use Rattle.coverage.specs.loops.Whole.{Whole, below, Edges, Direct, Into}
use Rattle.slices.proofs.Tests.{decide_eq}
use Rattle.coverage.proofs.Order.{race-apart}
use Rattle.coverage.proofs.Steps.{Links, GoOn}
use Rattle.coverage.proofs.Whole.{Ends, whole-ends, whole-self, whole-trans, race-whole, leads-ends}

-- From one place of the trace to another, whatever the links and edges are: the second d adds the sets of its edges' firsts; no second, nothing.
module _ (t : Setting) (Link E : ℕ → ℕ → Type 0) (u v : ℕ) where
  pub into_next : (d : ℕ) → t.ev d ≡ u → Into t Link E (suc d) u v ↔ (Into t Link E d u v ⊎ ((c : ℕ) × E c d × Whole t (t.ev c) v))
  into_next d z = (there, back)
    where
      split : (c x : ℕ) → E c x → t.ev x ≡ u → x < suc d → Whole t (t.ev c) v → (x ≡ d) ⊎ (x ≢ d) → Into t Link E d u v ⊎ ((c : ℕ) × E c d × Whole t (t.ev c) v)
      split c x e i m w (inl q) = inr (c, subst (E c) q e, w)
      split c x e i m w (inr n) = inl (inr (inr (c, x, e, i, omega arith, w)))

      there : Into t Link E (suc d) u v → Into t Link E d u v ⊎ ((c : ℕ) × E c d × Whole t (t.ev c) v)
      there (inl e) = inl (inl e)
      there (inr (inl s)) = inl (inr (inl s))
      there (inr (inr (c, x, e, i, m, w))) = split c x e i m w (decide_eq x d)

      back : Into t Link E d u v ⊎ ((c : ℕ) × E c d × Whole t (t.ev c) v) → Into t Link E (suc d) u v
      back (inl (inl e)) = inl e
      back (inl (inr (inl s))) = inr (inl s)
      back (inl (inr (inr (c, x, e, i, m, w)))) = inr (inr (c, x, e, i, omega arith, w))
      back (inr (c, e, w)) = inr (inr (c, d, e, z, omega arith, w))

  pub into-skip : (m n : ℕ) → ((c d : ℕ) → E c d → t.ev d ≡ u → d < m → d < n) → Into t Link E m u v → Into t Link E n u v
  into-skip m n f (inl e) = inl e
  into-skip m n f (inr (inl s)) = inr (inl s)
  into-skip m n f (inr (inr (c, d, e, i, k, w))) = inr (inr (c, d, e, i, f c d e i k, w))

  -- at the begin of u: itself, and the sets of its direct predecessors
  pub into-start : (n : ℕ) → ((c d : ℕ) → E c d → t.ev d ≡ u → n ≤ d) → Into t Link E n u v → (v ≡ u) ⊎ ((p : ℕ) × Link p u × Whole t p v)
  into-start n f (inl e) = inl e
  into-start n f (inr (inl s)) = inr s
  into-start n f (inr (inr (c, d, e, i, k, w))) = absurd (omega (arith, f c d e i))

module _ (t : Setting) (l : Laws t) (Link : ℕ → ℕ → Type 0) where
  module _ (ls : Direct t Link) (E : ℕ → ℕ → Type 0) (es : Edges t E) where
    -- from the last race to a step
    ends-into : {n u v : ℕ} → Ends t n u v → Into t Link E n u v
    ends-into {n} {u} {v} (inl h) = go (ls.final v u h)
      where
        go : (v ≡ u) ⊎ ((p : ℕ) × T (t.le v p) × Link p u) → Into t Link E n u v
        go (inl e) = inl e
        go (inr (p, k, m)) = inr (inl (p, m, below k))
    ends-into {n} {u} {v} (inr (c, d, r, m, g, w)) = at (es.ends r w)
      where
        up : (z : ℕ) → Whole t z v → (z ≡ u) ⊎ ((p : ℕ) × T (t.le z p) × Link p u) → (z ≡ u → Into t Link E n u v) → Into t Link E n u v
        up z k (inl e) f = f e
        up z k (inr (p, h, x)) f = inr (inl (p, x, whole-trans t l (below h) k))

        at : T (t.le v (t.ev d)) ⊎ ((p q : ℕ) × E p q × (q ≤ d) × T (t.le (t.ev q) (t.ev d)) × Whole t (t.ev p) v) → Into t Link E n u v
        at (inl k) = up v (whole-self t l v) (ls.final v u (l.le_trans _ _ _ k g)) inl
        at (inr (p, q, e, k, h, x)) = up (t.ev q) (whole-trans t l (race-whole t l (es.race e)) x) (ls.final (t.ev q) u (l.le_trans _ _ _ h g)) (λ z. inr (inr (p, q, e, z, omega arith, x)))

    -- what leads to u as a whole: the row of u at its end
    pub whole-into : (u v : ℕ) → Whole t u v ↔ Into t Link E t.size u v
    whole-into u v = (λ w. ends-into (whole-ends t w), back)
      where
        back : Into t Link E t.size u v → Whole t u v
        back (inl e) = subst (λ (x : ℕ). Whole t x v) e (whole-self t l v)
        back (inr (inl (p, m, w))) = whole-trans t l (below (ls.sound m)) w
        back (inr (inr (c, d, e, i, m, w))) = whole-trans t l (subst (λ (x : ℕ). Whole t x (t.ev c)) i (race-whole t l (es.race e))) w

    pub whole-step : (u v : ℕ) → Whole t u v ↔ ((v ≡ u) ⊎ ((p : ℕ) × Link p u × Whole t p v) ⊎ ((c d : ℕ) × E c d × (t.ev d ≡ u) × Whole t (t.ev c) v))
    whole-step u v = (λ w. there ((whole-into u v).0 w), λ s. (whole-into u v).1 (back s))
      where
        there : Into t Link E t.size u v → (v ≡ u) ⊎ ((p : ℕ) × Link p u × Whole t p v) ⊎ ((c d : ℕ) × E c d × (t.ev d ≡ u) × Whole t (t.ev c) v)
        there (inl e) = inl e
        there (inr (inl s)) = inr (inl s)
        there (inr (inr (c, d, e, i, m, w))) = inr (inr (c, d, e, i, w))

        back : (v ≡ u) ⊎ ((p : ℕ) × Link p u × Whole t p v) ⊎ ((c d : ℕ) × E c d × (t.ev d ≡ u) × Whole t (t.ev c) v) → Into t Link E t.size u v
        back (inl e) = inl e
        back (inr (inl s)) = inr (inl s)
        back (inr (inr (c, d, e, i, w))) = inr (inr (c, d, e, i, (es.race e).inside, w))

    -- what leads to b: the row of ev(b) at b, `Into t Link E b (t.ev b) v`
    pub leads-step : (b v : ℕ) → b < t.size → T (leads t b v) ↔ ((v ≡ t.ev b) ⊎ ((p : ℕ) × Link p (t.ev b) × Whole t p v) ⊎ ((c d : ℕ) × E c d × (t.ev d ≡ t.ev b) × (d < b) × Whole t (t.ev c) v))
    leads-step b v i = (λ h. ends-into ((leads-ends t l b v i).0 h), λ s. (leads-ends t l b v i).1 (back s))
      where
        same_event : (x : ℕ) → x ≡ t.ev b → T (t.le x (t.ev b))
        same_event x e = subst (λ (y : ℕ). T (t.le x y)) e (l.le_refl x)

        under : (p : ℕ) → Link p (t.ev b) → Ends t t.size p v → Ends t b (t.ev b) v
        under p m (inl h) = inl (l.le_trans _ _ _ h (ls.sound m))
        under p m (inr (c, d, r, k, g, w)) = let h = l.le_trans _ _ _ g (ls.sound m) in inr (c, d, r, l.forward d b r.inside i h (λ e. ls.strict m (subst (λ (y : ℕ). T (t.le y p)) e g)), h, w)

        back : Into t Link E b (t.ev b) v → Ends t b (t.ev b) v
        back (inl e) = inl (same_event v e)
        back (inr (inl (p, m, w))) = under p m (whole-ends t w)
        back (inr (inr (c, d, e, z, m, w))) = inr (c, d, es.race e, m, same_event (t.ev d) z, w)

    -- the mark of a race
    pub mark-step : (a b : ℕ) → Race t a b → T (coveredb t a b) ↔ (((p : ℕ) × Link p (t.ev b) × Whole t p (t.ev a)) ⊎ ((c d : ℕ) × E c d × (t.ev d ≡ t.ev b) × (d < b) × Whole t (t.ev c) (t.ev a)))
    mark-step a b r = (λ h. go ((leads-step b (t.ev a) r.inside).0 h), λ s. (leads-step b (t.ev a) r.inside).1 (inr s))
      where
        go : Into t Link E b (t.ev b) (t.ev a) → ((p : ℕ) × Link p (t.ev b) × Whole t p (t.ev a)) ⊎ ((c d : ℕ) × E c d × (t.ev d ≡ t.ev b) × (d < b) × Whole t (t.ev c) (t.ev a))
        go (inl e) = absurd (race-apart t l a b r e)
        go (inr s) = s

    -- The row of u from one second access to the next, over the edges into u:
    abbrev With : ℕ → ℕ → Type 0
    With b v = T (leads t b v) ⊎ ((c : ℕ) × E c b × Whole t (t.ev c) v)

    -- no edge before b: itself, and the sets of its direct predecessors
    pub leads-first : (b v : ℕ) → b < t.size → ((c d : ℕ) → E c d → t.ev d ≡ t.ev b → b ≤ d) → T (leads t b v) ↔ ((v ≡ t.ev b) ⊎ ((p : ℕ) × Link p (t.ev b) × Whole t p v))
    leads-first b v i f = (λ h. into-start t Link E (t.ev b) v b f ((leads-step b v i).0 h), λ s. (leads-step b v i).1 (start s))
      where
        start : (v ≡ t.ev b) ⊎ ((p : ℕ) × Link p (t.ev b) × Whole t p v) → Into t Link E b (t.ev b) v
        start (inl e) = inl e
        start (inr s) = inr (inl s)

    with-into : (b v : ℕ) → b < t.size → With b v ↔ Into t Link E (suc b) (t.ev b) v
    with-into b v i = (λ s. (into_next t Link E (t.ev b) v b refl).1 (there s), λ s. back ((into_next t Link E (t.ev b) v b refl).0 s))
      where
        there : With b v → Into t Link E b (t.ev b) v ⊎ ((c : ℕ) × E c b × Whole t (t.ev c) v)
        there (inl h) = inl ((leads-step b v i).0 h)
        there (inr s) = inr s

        back : Into t Link E b (t.ev b) v ⊎ ((c : ℕ) × E c b × Whole t (t.ev c) v) → With b v
        back (inl h) = inl ((leads-step b v i).1 h)
        back (inr s) = inr s

    -- no edge between b and a later record x of u: what leads to b, and the sets of the firsts of b's edges
    pub leads-next : (b x v : ℕ) → b < x → x < t.size → t.ev b ≡ t.ev x → ((c d : ℕ) → E c d → t.ev d ≡ t.ev x → d < x → d ≤ b) → T (leads t x v) ↔ (T (leads t b v) ⊎ ((c : ℕ) × E c b × Whole t (t.ev c) v))
    leads-next b x v m i e f = (λ h. (with-into b v (omega arith)).1 (subst (λ (u : ℕ). Into t Link E (suc b) u v) (sym e) (into-skip t Link E (t.ev x) v x (suc b) (λ c d z q k. omega (arith, f c d z q k)) ((leads-step x v i).0 h))), λ s. (leads-step x v i).1 (into-skip t Link E (t.ev x) v (suc b) x (λ c d z q k. omega arith) (subst (λ (u : ℕ). Into t Link E (suc b) u v) e ((with-into b v (omega arith)).0 s))))

    -- no edge after b: the same is all that leads to u as a whole
    pub whole-last : (b v : ℕ) → b < t.size → ((c d : ℕ) → E c d → t.ev d ≡ t.ev b → d ≤ b) → Whole t (t.ev b) v ↔ (T (leads t b v) ⊎ ((c : ℕ) × E c b × Whole t (t.ev c) v))
    whole-last b v i f = (λ w. (with-into b v i).1 (into-skip t Link E (t.ev b) v t.size (suc b) (λ c d z q k. omega (arith, f c d z q)) ((whole-into (t.ev b) v).0 w)), λ s. (whole-into (t.ev b) v).1 (into-skip t Link E (t.ev b) v (suc b) t.size (λ c d z q k. omega arith) ((with-into b v i).0 s)))

  -- Links that have a first one on each way, and go on, are direct ones.
  module _ (ls : Links t Link) (gs : GoOn t Link) where
    abbrev Final : ℕ → ℕ → Type 0
    Final v u = (v ≡ u) ⊎ ((p : ℕ) × T (t.le v p) × Link p u)

    -- one link more in front
    front : {v p u : ℕ} → Link v p → Final p u → Final v u
    front {v} m (inl e) = inr (v, l.le_refl v, subst (Link v) e m)
    front m (inr (q, h, k)) = inr (q, l.le_trans _ _ _ (ls.sound m) h, k)

    final-at : (k x u : ℕ) → t.size ≤ x + k → x < t.size → T (t.le (t.ev x) u) → Final (t.ev x) u
    final-at zero x u m i h = absurd (omega arith)
    final-at (suc k) x u m i h = go (decide_eq (t.ev x) u) (final-at k)
      where
        go : (t.ev x ≡ u) ⊎ (t.ev x ≢ u) → ((y u : ℕ) → t.size ≤ y + k → y < t.size → T (t.le (t.ev y) u) → Final (t.ev y) u) → Final (t.ev x) u
        go (inl e) f = inl e
        go (inr n) f = let (p, s, g) = ls.first (t.ev x) u h n in at p s g (gs.begun s)
          where
            at : (p : ℕ) → Link (t.ev x) p → T (t.le p u) → (y : ℕ) × (y < t.size) × (t.ev y ≡ p) → Final (t.ev x) u
            at p s g (y, j, e) =
                let s' = subst (Link (t.ev x)) (sym e) s in
                front s' (f y u (omega (arith, l.forward x y i j (ls.sound s') (gs.apart s'))) j (subst (λ (z : ℕ). T (t.le z u)) (sym e) g))

    final-any : (v u : ℕ) → T (t.le v u) → Final v u
    final-any v u h = go (decide_eq v u)
      where
        go : (v ≡ u) ⊎ (v ≢ u) → Final v u
        go (inl e) = inl e
        go (inr n) = let (p, s, g) = ls.first v u h n in at p s g (gs.begun s)
          where
            at : (p : ℕ) → Link v p → T (t.le p u) → (y : ℕ) × (y < t.size) × (t.ev y ≡ p) → Final v u
            at p s g (y, j, e) = front s (subst (λ (z : ℕ). Final z u) e (final-at t.size y u (omega arith) j (subst (λ (z : ℕ). T (t.le z u)) (sym e) g)))

    never_back : {v u : ℕ} → Link v u → T (t.le u v) → ⊥
    never_back {v} {u} m h = go (final-any u v h)
      where
        at : (y : ℕ) × (y < t.size) × (t.ev y ≡ u) → (z : ℕ) × (z < t.size) × (t.ev z ≡ v) → ⊥
        at (y, i, e) (z, j, f) =
            let a : z < y = l.forward z y j i (subst (λ (q : ℕ). T (t.le q (t.ev y))) (sym f) (subst (λ (q : ℕ). T (t.le v q)) (sym e) (ls.sound m))) (λ q. gs.apart m (sym f ∙ q ∙ e)) in
            let b : y < z = l.forward y z i j (subst (λ (q : ℕ). T (t.le q (t.ev z))) (sym e) (subst (λ (q : ℕ). T (t.le u q)) (sym f) h)) (λ q. gs.apart m (sym (sym e ∙ q ∙ f))) in
            omega arith

        go : Final u v → ⊥
        go (inl e) = gs.apart m (sym e)
        go (inr (p, k, s)) = at (gs.begun m) (gs.begun s)

    pub links-direct : Direct t Link
    links-direct = record { sound = ls.sound; final = final-any; strict = never_back }
