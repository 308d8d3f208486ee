-- `leads b u` computes what it should: u is at or below the event action of b, or races cover from u to b.
use Prim.Native.Nat.{ℕ, zero, suc, ◌+◌, ◌≤◌, ◌<◌}
use mathlib.Core.Path.{◌≡◌, refl, subst}
use mathlib.Core.Logic.{◌≢◌, ◌⊎◌, inl, inr, ◌↔◌}
use mathlib.Core.Bool.{false, ◌&&◌, ◌||◌}
use mathlib.Core.List.{List}
use native.Mathlib.Omega.{arith}
use lib.Dec.{T}
use Rattle.coverage.specs.Setting.{Setting, Laws}
use Rattle.coverage.specs.Race.{before, Race, raceb}
use Rattle.coverage.specs.Cover.{CoversFrom, one, more, Covered, Open}
use Rattle.coverage.specs.Leading.{reach, leads, coveredb}
use Rattle.slices.proofs.Tests.{both, and, either, or_left, or_right, decide, failed}
use Rattle.coverage.proofs.Below.{found, find}
use Rattle.coverage.proofs.Order.{le-before, before-le, before-lt, race-of, of-race, race-not-le, race-after}

module _ (t : Setting) where
  abbrev Cover : ℕ → ℕ → Type 0
  Cover b u = (cs : List (ℕ × ℕ)) × CoversFrom t b u cs

  -- the second of the first race
  abbrev turn : {b u : ℕ} {cs : List (ℕ × ℕ)} → CoversFrom t b u cs → ℕ
  turn (one {d = d} h r q) = d
  turn (more {d = d} h r c) = d

  turn_inside : {b u : ℕ} {cs : List (ℕ × ℕ)} (c : CoversFrom t b u cs) → turn c < t.size
  turn_inside (one h r q) = r.inside
  turn_inside (more h r c) = r.inside

  pub reach-sound : (b k u : ℕ) → T (reach t b k u) → (cs : List (ℕ × ℕ)) × CoversFrom t b u cs
  unfolding reach
  reach-sound b zero u h = absurd h
  reach-sound b (suc k) u h =
      let f = found _ _ h in
      let g = found _ _ f.2 in
      let c = f.0 in
      let d = g.0 in
      let p = both (raceb t c d && t.le u (t.ev c)) (before t d b || reach t b k (t.ev d)) g.2 in
      let q = both (raceb t c d) (t.le u (t.ev c)) p.0 in
      go c d (race-of t c d q.0) q.1 (either (before t d b) (reach t b k (t.ev d)) p.1) (reach-sound b k (t.ev d))
    where
      go : (c d : ℕ) → Race t c d → T (t.le u (t.ev c)) → T (before t d b) ⊎ T (reach t b k (t.ev d)) → (T (reach t b k (t.ev d)) → Cover b (t.ev d)) → Cover b u
      go c d r h (inl q) f = (_, one h r q)
      go c d r h (inr q) f = let s = f q in (_, more h r s.1)

  reach_step : (b k u c d : ℕ) → T (t.le u (t.ev c)) → Race t c d → T (before t d b || reach t b k (t.ev d)) → T (reach t b (suc k) u)
  unfolding reach
  reach_step b k u c d h r q =
      let x = and (raceb t c d && t.le u (t.ev c)) (before t d b || reach t b k (t.ev d)) (and (raceb t c d) (t.le u (t.ev c)) (of-race t c d r) h) q in
      find t.size _ c (omega (arith, r.first, r.inside)) (find t.size _ d r.inside x)

module _ (t : Setting) (w : Laws t) where
  turn-after : {b : ℕ} {cs : List (ℕ × ℕ)} (x : ℕ) → x < t.size → (c : CoversFrom t b (t.ev x) cs) → x < turn t c
  turn-after x l (one {c = c} {d = d} h r q) = race-after t w x c d l h r
  turn-after x l (more {c = c} {d = d} h r k) = race-after t w x c d l h r

  pub reach-complete : (b k u : ℕ) {cs : List (ℕ × ℕ)} (c : CoversFrom t b u cs) → t.size ≤ turn t c + k → T (reach t b k u)
  reach-complete b zero u c l = absurd (omega (arith, turn_inside t c))
  reach-complete b (suc k) u (one {c = c} {d = d} h r q) l = reach_step t b k u c d h r (or_left (before t d b) (reach t b k (t.ev d)) q)
  reach-complete b (suc k) u (more {c = c} {d = d} h r s) l =
      reach_step t b k u c d h r (or_right (before t d b) (reach t b k (t.ev d)) (reach-complete b k (t.ev d) s (omega (arith, turn-after d r.inside s))))

  pub leads-sound : (b u : ℕ) → T (leads t b u) → T (t.le u (t.ev b)) ⊎ ((cs : List (ℕ × ℕ)) × CoversFrom t b u cs)
  unfolding leads
  leads-sound b u h = go (either (t.le u (t.ev b)) (reach t b t.size u) h)
    where
      go : T (t.le u (t.ev b)) ⊎ T (reach t b t.size u) → T (t.le u (t.ev b)) ⊎ Cover t b u
      go (inl k) = inl k
      go (inr k) = inr (reach-sound t b t.size u k)

  pub le-leads : (b u : ℕ) → T (t.le u (t.ev b)) → T (leads t b u)
  unfolding leads
  le-leads b u h = or_left (t.le u (t.ev b)) _ h

  pub leads-self : (b : ℕ) → T (leads t b (t.ev b))
  leads-self b = le-leads b (t.ev b) (w.le_refl (t.ev b))

  pub cover-leads : (b u : ℕ) {cs : List (ℕ × ℕ)} → CoversFrom t b u cs → T (leads t b u)
  unfolding leads
  cover-leads b u c = or_right (t.le u (t.ev b)) _ (reach-complete b t.size u c (omega arith))

  -- leads b u, exactly: what the paper says of it
  pub leads-exact : (b u : ℕ) → T (leads t b u) ↔ (T (t.le u (t.ev b)) ⊎ ((cs : List (ℕ × ℕ)) × CoversFrom t b u cs))
  leads-exact b u = (leads-sound b u, back)
    where
      back : T (t.le u (t.ev b)) ⊎ Cover t b u → T (leads t b u)
      back (inl h) = le-leads b u h
      back (inr c) = cover-leads b u c.1

  -- of a race, the computed mark says whether it is covered
  pub covered-iff : (a b : ℕ) → Race t a b → T (coveredb t a b) ↔ Covered t a b
  covered-iff a b r = (λ h. go (leads-sound b (t.ev a) h), λ c. cover-leads b (t.ev a) c.1)
    where
      go : T (t.le (t.ev a) (t.ev b)) ⊎ Covered t a b → Covered t a b
      go (inl h) = absurd (race-not-le t w a b r h)
      go (inr c) = c

  pub open-iff : (a b : ℕ) → Race t a b → (coveredb t a b ≡ false) ↔ Open t a b
  open-iff a b r = (λ e cs c. subst T e (cover-leads b (t.ev a) c), λ o. failed _ (λ h. let c = (covered-iff a b r).0 h in o c.0 c.1))

  -- closure downwards, and under races into what leads
  pub cover-below : {b u v : ℕ} {cs : List (ℕ × ℕ)} → T (t.le u v) → CoversFrom t b v cs → CoversFrom t b u cs
  cover-below h (one k r q) = one (w.le_trans _ _ _ h k) r q
  cover-below h (more k r c) = more (w.le_trans _ _ _ h k) r c

  pub leads-below : (b u v : ℕ) → T (t.le u v) → T (leads t b v) → T (leads t b u)
  leads-below b u v h k = go (leads-sound b v k)
    where
      go : T (t.le v (t.ev b)) ⊎ Cover t b v → T (leads t b u)
      go (inl l) = le-leads b u (w.le_trans _ _ _ h l)
      go (inr c) = cover-leads b u (cover-below h c.1)

  pub leads-race : (b c x : ℕ) → Race t c x → x < b → T (leads t b (t.ev x)) → T (leads t b (t.ev c))
  leads-race b c x r l h = go (leads-sound b (t.ev x) h)
    where
      go : T (t.le (t.ev x) (t.ev b)) ⊎ Cover t b (t.ev x) → T (leads t b (t.ev c))
      go (inl k) = cover-leads b (t.ev c) (one (w.le_refl (t.ev c)) r (le-before t x b l k))
      go (inr k) = cover-leads b (t.ev c) (more (w.le_refl (t.ev c)) r k.1)

  -- a cover goes up: it starts at a record below b
  cover-upward : (b : ℕ) → b < t.size → (z v : ℕ) {cs : List (ℕ × ℕ)} → z < t.size → CoversFrom t b v cs → v ≡ t.ev z → z < b
  cover-upward b l z v k (one {c = c} {d = d} q r s) e =
      omega (arith, race-after t w z c d k (subst (λ (u : ℕ). T (t.le u (t.ev c))) e q) r, before-lt t w d b r.inside l s)
  cover-upward b l z v k (more {c = c} {d = d} q r s) e =
      omega (arith, race-after t w z c d k (subst (λ (u : ℕ). T (t.le u (t.ev c))) e q) r, cover-upward b l d (t.ev d) r.inside s refl)

  pub cover-ahead : (b : ℕ) → b < t.size → (z : ℕ) {cs : List (ℕ × ℕ)} → z < t.size → CoversFrom t b (t.ev z) cs → z < b
  cover-ahead b l z k c = cover-upward b l z (t.ev z) k c refl

  -- an event action that leads to b, other than that of b, stands wholly before b
  pub leads-ahead : (b x : ℕ) → b < t.size → x < t.size → t.ev x ≢ t.ev b → T (leads t b (t.ev x)) → x < b
  leads-ahead b x l k n h = go (leads-sound b (t.ev x) h)
    where
      go : T (t.le (t.ev x) (t.ev b)) ⊎ Cover t b (t.ev x) → x < b
      go (inl g) = w.forward x b k l g n
      go (inr c) = cover-ahead b l x k c.1

  -- `leads` by its first race, whose second is below b and leads to b: what a pass over the records from b down computes
  pub leads-unfold : (b u : ℕ) → b < t.size → T (leads t b u) ↔ (T (t.le u (t.ev b)) ⊎ ((c d : ℕ) × Race t c d × T (t.le u (t.ev c)) × (d < b) × T (leads t b (t.ev d))))
  leads-unfold b u l = (λ h. there (leads-sound b u h), back)
    where
      first : {cs : List (ℕ × ℕ)} → CoversFrom t b u cs → (c d : ℕ) × Race t c d × T (t.le u (t.ev c)) × (d < b) × T (leads t b (t.ev d))
      first (one {c = c} {d = d} h r q) = (c, d, r, h, before-lt t w d b r.inside l q, le-leads b (t.ev d) (before-le t w d b q))
      first (more {c = c} {d = d} h r s) = (c, d, r, h, cover-ahead b l d r.inside s, cover-leads b (t.ev d) s)

      there : T (t.le u (t.ev b)) ⊎ Cover t b u → T (t.le u (t.ev b)) ⊎ ((c d : ℕ) × Race t c d × T (t.le u (t.ev c)) × (d < b) × T (leads t b (t.ev d)))
      there (inl h) = inl h
      there (inr c) = inr (first c.1)

      back : T (t.le u (t.ev b)) ⊎ ((c d : ℕ) × Race t c d × T (t.le u (t.ev c)) × (d < b) × T (leads t b (t.ev d))) → T (leads t b u)
      back (inl h) = le-leads b u h
      back (inr f) = leads-below b u (t.ev f.0) f.3 (leads-race b f.0 f.1 f.2 f.4 f.5)

  -- a cover found forwards: from what leads to b and is not at or below ev(b), a race whose second is before b, or leads to b in the same way
  pub cover-next : (b u : ℕ) → b < t.size → T (leads t b u) → (T (t.le u (t.ev b)) → ⊥) → (c d : ℕ) × Race t c d × T (t.le u (t.ev c)) × (d < b) × (T (before t d b) ⊎ (T (leads t b (t.ev d)) × (T (t.le (t.ev d) (t.ev b)) → ⊥)))
  cover-next b u l h n = go ((leads-unfold b u l).0 h)
    where
      on : (d : ℕ) → d < b → T (leads t b (t.ev d)) → T (t.le (t.ev d) (t.ev b)) ⊎ (T (t.le (t.ev d) (t.ev b)) → ⊥) → T (before t d b) ⊎ (T (leads t b (t.ev d)) × (T (t.le (t.ev d) (t.ev b)) → ⊥))
      on d m k (inl e) = inl (le-before t d b m e)
      on d m k (inr e) = inr (k, e)

      go : T (t.le u (t.ev b)) ⊎ ((c d : ℕ) × Race t c d × T (t.le u (t.ev c)) × (d < b) × T (leads t b (t.ev d))) → (c d : ℕ) × Race t c d × T (t.le u (t.ev c)) × (d < b) × (T (before t d b) ⊎ (T (leads t b (t.ev d)) × (T (t.le (t.ev d) (t.ev b)) → ⊥)))
      go (inl k) = absurd (n k)
      go (inr (c, d, r, k, m, q)) = (c, d, r, k, m, on d m q (decide (t.le (t.ev d) (t.ev b))))
