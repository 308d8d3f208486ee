-- What leads to an event action as a whole: closed downwards, transitive, forward; and what leads to b, by its last race.
use Prim.Native.Nat.{ℕ, zero, suc, ◌+◌, ◌-◌, ◌≤◌, ◌<◌}
use mathlib.Core.Path.{◌≡◌, refl, sym, ap, ◌∙◌, subst}
use mathlib.Core.Logic.{◌≢◌, ◌⊎◌, inl, inr, ◌↔◌}
use mathlib.Core.Bool.{◌&&◌}
use mathlib.Core.List.{List}
use native.Mathlib.Omega.{arith}
use lib.Dec.{T}
use Rattle.coverage.specs.Below.{some}
use Rattle.coverage.specs.Setting.{Setting, Laws}
use Rattle.coverage.specs.Race.{Race, raceb}
use Rattle.coverage.specs.Cover.{CoversFrom, one, more}
use Rattle.coverage.specs.Leading.{leads, coveredb}
use Rattle.coverage.specs.loops.Whole.{RacesTo, last, next, Whole, below, by_race, whole_by, whole}
use Rattle.slices.proofs.Tests.{both, and, either, or_left, or_right, decide_eq}
use Rattle.coverage.proofs.Below.{found, find}
use Rattle.coverage.proofs.Order.{before-le, before-lt, race-of, of-race, race-apart, after, race-after}
use Rattle.coverage.proofs.Leads.{leads-exact, le-leads, leads-below, leads-race, leads-ahead}

module _ (t : Setting) where
  -- by its sequence of races
  pub whole-races : (u v : ℕ) → Whole t u v ↔ (T (t.le v u) ⊎ ((cs : List (ℕ × ℕ)) × RacesTo t u v cs))
  whole-races u v = (there, back)
    where
      onto : {v c d : ℕ} → T (t.le v (t.ev c)) → Race t c d → T (t.le (t.ev d) u) ⊎ ((cs : List (ℕ × ℕ)) × RacesTo t u (t.ev d) cs) → (cs : List (ℕ × ℕ)) × RacesTo t u v cs
      onto h r (inl k) = (_, last h r k)
      onto h r (inr k) = (_, next h r k.1)

      there : {v : ℕ} → Whole t u v → T (t.le v u) ⊎ ((cs : List (ℕ × ℕ)) × RacesTo t u v cs)
      there (below h) = inl h
      there (by_race h r k) = inr (onto h r (there k))

      races : {v : ℕ} {cs : List (ℕ × ℕ)} → RacesTo t u v cs → Whole t u v
      races (last h r k) = by_race h r (below k)
      races (next h r k) = by_race h r (races k)

      back : T (t.le v u) ⊎ ((cs : List (ℕ × ℕ)) × RacesTo t u v cs) → Whole t u v
      back (inl h) = below h
      back (inr k) = races k.1

  -- by its last race
  abbrev pub Ends : ℕ → ℕ → ℕ → Type 0
  Ends n u v = T (t.le v u) ⊎ ((c d : ℕ) × Race t c d × (d < n) × T (t.le (t.ev d) u) × Whole t (t.ev c) v)

  pub whole-ends : {u v : ℕ} → Whole t u v → Ends t.size u v
  whole-ends (below h) = inl h
  whole-ends {u} {v} (by_race {c = c} {d = d} h r k) = inr (go (whole-ends k))
    where
      go : Ends t.size u (t.ev d) → (c d : ℕ) × Race t c d × (d < t.size) × T (t.le (t.ev d) u) × Whole t (t.ev c) v
      go (inl g) = (c, d, r, r.inside, g, below h)
      go (inr (p, q, s, m, g, w)) = (p, q, s, m, g, by_race h r w)

module _ (t : Setting) (l : Laws t) where
  pub whole-self : (u : ℕ) → Whole t u u
  whole-self u = below (l.le_refl u)

  -- closed downwards
  pub whole_below : {u v s : ℕ} → T (t.le s v) → Whole t u v → Whole t u s
  whole_below h (below k) = below (l.le_trans _ _ _ h k)
  whole_below h (by_race k r w) = by_race (l.le_trans _ _ _ h k) r w

  -- transitive; so where v leads to u already, an edge from v to u changes nothing
  pub whole-trans : {u v s : ℕ} → Whole t u v → Whole t v s → Whole t u s
  whole-trans g (below k) = whole_below k g
  whole-trans g (by_race k r w) = by_race k r (whole-trans g w)

  pub race-whole : {c d : ℕ} → Race t c d → Whole t (t.ev d) (t.ev c)
  race-whole {c} {d} r = by_race (l.le_refl (t.ev c)) r (whole-self (t.ev d))

  -- forward: the records of what leads to u, other than u, stand before those of u
  whole-upward : (y : ℕ) → y < t.size → (x v : ℕ) → x < t.size → t.ev x ≢ t.ev y → Whole t (t.ev y) v → v ≡ t.ev x → x < y
  whole-upward y j x v i n (below h) e = l.forward x y i j (subst (λ (s : ℕ). T (t.le s (t.ev y))) e h) n
  whole-upward y j x v i n (by_race {c = c} {d = d} h r w) e =
      let m = race-after t l x c d i (subst (λ (s : ℕ). T (t.le s (t.ev c))) e h) r in
      go (decide_eq (t.ev d) (t.ev y)) m (λ k. whole-upward y j d (t.ev d) r.inside k w refl)
    where
      go : (t.ev d ≡ t.ev y) ⊎ (t.ev d ≢ t.ev y) → x < d → (t.ev d ≢ t.ev y → d < y) → x < y
      go (inl e) m f =
          let k : y < x → ⊥ = λ (g : y < x). omega (arith, after t l d y x r.inside (sym e) g (λ q. n (sym q))) in
          let z : x ≡ y → ⊥ = λ (g : x ≡ y). n (ap t.ev g) in
          omega (arith, k, z)
      go (inr k) m f = omega (arith, f k)

  pub whole-ahead : (x y : ℕ) → x < t.size → y < t.size → t.ev x ≢ t.ev y → Whole t (t.ev y) (t.ev x) → x < y
  whole-ahead x y i j n w = whole-upward y j x (t.ev x) i n w refl

  -- What leads to b has all that leads to it as a whole, but for ev(b) itself.
  pub leads-whole : (b a : ℕ) {v : ℕ} → b < t.size → a < t.size → t.ev a ≢ t.ev b → T (leads t b (t.ev a)) → Whole t (t.ev a) v → T (leads t b v)
  leads-whole b a {v} i j n h (below k) = leads-below t l b v (t.ev a) k h
  leads-whole b a {v} i j n h (by_race {c = c} {d = d} k r w) = leads-below t l b v (t.ev c) k (leads-race t l b c d r (go (decide_eq (t.ev d) (t.ev a))) (leads-whole b a i j n h w))
    where
      go : (t.ev d ≡ t.ev a) ⊎ (t.ev d ≢ t.ev a) → d < b
      go (inl e) = leads-ahead t l b d i r.inside (λ q. n (sym e ∙ q)) (subst (λ (x : ℕ). T (leads t b x)) (sym e) h)
      go (inr q) = omega (arith, whole-ahead d a r.inside j q w, leads-ahead t l b a i j n h)

  -- so where a race is covered, all that leads to its first as a whole leads to its second already
  pub leads-skip : {a b v : ℕ} → Race t a b → T (coveredb t a b) → Whole t (t.ev a) v → T (leads t b v)
  leads-skip {a} {b} r h = leads-whole b a r.inside (omega (arith, r.first, r.inside)) (race-apart t l a b r) h

  -- what leads to b, by its last race
  pub leads-ends : (b v : ℕ) → b < t.size → T (leads t b v) ↔ Ends t b (t.ev b) v
  leads-ends b v i = (λ h. there ((leads-exact t l b v).0 h), back)
    where
      Final : ℕ → Type 0
      Final v = (c d : ℕ) × Race t c d × (d < b) × T (t.le (t.ev d) (t.ev b)) × Whole t (t.ev c) v

      before-it : {v c d : ℕ} → T (t.le v (t.ev c)) → Race t c d → Final (t.ev d) → Final v
      before-it h r (p, q, s, m, g, w) = (p, q, s, m, g, by_race h r w)

      final : {v : ℕ} {cs : List (ℕ × ℕ)} → CoversFrom t b v cs → Final v
      final (one {c = c} {d = d} h r q) = (c, d, r, before-lt t l d b r.inside i q, before-le t l d b q, below h)
      final (more h r s) = before-it h r (final s)

      there : T (t.le v (t.ev b)) ⊎ ((cs : List (ℕ × ℕ)) × CoversFrom t b v cs) → Ends t b (t.ev b) v
      there (inl h) = inl h
      there (inr c) = inr (final c.1)

      back : Ends t b (t.ev b) v → T (leads t b v)
      back (inl h) = le-leads t l b v h
      back (inr (c, d, r, m, g, w)) = leads-whole b c i (omega (arith, r.first)) apart (leads-race t l b c d r m (le-leads t l b (t.ev d) g)) w
        where
          apart : t.ev c ≢ t.ev b
          apart e = omega (arith, r.first, l.forward d c r.inside (omega (arith, r.first)) (subst (λ (x : ℕ). T (t.le (t.ev d) x)) (sym e) g) (λ q. race-apart t l c d r (sym q)))

  -- what leads to b leads to ev(b) as a whole
  pub leads-to-whole : (b v : ℕ) → b < t.size → T (leads t b v) → Whole t (t.ev b) v
  leads-to-whole b v i h = go ((leads-ends b v i).0 h)
    where
      go : Ends t b (t.ev b) v → Whole t (t.ev b) v
      go (inl k) = below k
      go (inr (c, d, r, m, g, w)) = whole-trans (by_race (l.le_refl (t.ev c)) r (below g)) w

  -- The test computes it.
  whole-sound : (u k : ℕ) {v : ℕ} → T (whole_by t u k v) → Whole t u v
  unfolding whole_by
  whole-sound u zero h = below h
  whole-sound u (suc k) {v} h = go (either (t.le v u) (some t.size (λ c. some t.size (λ d. (raceb t c d && t.le v (t.ev c)) && whole_by t u k (t.ev d)))) h) (λ d. whole-sound u k)
    where
      go : T (t.le v u) ⊎ T (some t.size (λ c. some t.size (λ d. (raceb t c d && t.le v (t.ev c)) && whole_by t u k (t.ev d)))) → ((d : ℕ) → T (whole_by t u k (t.ev d)) → Whole t u (t.ev d)) → Whole t u v
      go (inl g) f = below g
      go (inr g) f =
          let (c, i, x) = found _ _ g in
          let (d, j, y) = found _ _ x in
          let p = both (raceb t c d && t.le v (t.ev c)) (whole_by t u k (t.ev d)) y in
          let q = both (raceb t c d) (t.le v (t.ev c)) p.0 in
          by_race q.1 (race-of t c d q.0) (f d p.1)

  whole-step : (u k v c d : ℕ) → T (t.le v (t.ev c)) → Race t c d → T (whole_by t u k (t.ev d)) → T (whole_by t u (suc k) v)
  unfolding whole_by
  whole-step u k v c d h r q =
      let x = and (raceb t c d && t.le v (t.ev c)) (whole_by t u k (t.ev d)) (and (raceb t c d) (t.le v (t.ev c)) (of-race t c d r) h) q in
      or_right (t.le v u) _ (find t.size _ c (omega (arith, r.first, r.inside)) (find t.size _ d r.inside x))

  whole-under : (u k v : ℕ) → T (t.le v u) → T (whole_by t u k v)
  unfolding whole_by
  whole-under u zero v h = h
  whole-under u (suc k) v h = or_left (t.le v u) _ h

  -- from record x on there are at most size - x seconds to come
  whole-complete : (u k x : ℕ) → t.size ≤ x + k → x < t.size → Whole t u (t.ev x) → T (whole_by t u k (t.ev x))
  whole-complete u zero x m i w = absurd (omega arith)
  whole-complete u (suc k) x m i (below h) = whole-under u (suc k) (t.ev x) h
  whole-complete u (suc k) x m i (by_race {c = c} {d = d} h r w) = whole-step u k (t.ev x) c d h r (whole-complete u k d (omega (arith, race-after t l x c d i h r)) r.inside w)

  pub whole-decides : (u v : ℕ) → T (whole t u v) ↔ Whole t u v
  unfolding whole
  whole-decides u v = (whole-sound u t.size, back)
    where
      back : Whole t u v → T (whole_by t u t.size v)
      back (below h) = whole-under u t.size v h
      back (by_race {c = c} {d = d} h r w) =
          let e : suc (t.size - 1) ≡ t.size = omega (arith, r.inside) in
          subst (λ (n : ℕ). T (whole_by t u n v)) e (whole-step u (t.size - 1) v c d h r (whole-complete u (t.size - 1) d (omega (arith, r.first)) r.inside w))
