-- The short list: an open race has neighbours on its cell, with the same second, that are an open race.
use Prim.Native.Nat.{ℕ, zero, suc, ◌+◌, ◌≤◌, ◌<◌}
use mathlib.Core.Path.{◌≡◌, sym, ◌∙◌, subst}
use mathlib.Core.Logic.{◌⊎◌, inl, inr, ◌↔◌}
use mathlib.Core.Bool.{not, ◌&&◌, ◌||◌}
use mathlib.Core.List.{List}
use native.Mathlib.Omega.{arith}
use lib.Dec.{T, ltb, eqb, eqb→eq, ltb→lt, lt→ltb, T_not, not_T}
use Rattle.coverage.specs.Setting.{Setting, Laws}
use Rattle.coverage.specs.Race.{before, Race}
use Rattle.coverage.specs.Cover.{CoversFrom, one, more, Open}
use Rattle.coverage.specs.Neighbours.{Cells, writes, conflicts, NoWrite, Neighbours, write_write, write_read, read_write, write_between, neighbour}
use Rattle.slices.proofs.Tests.{both, and, either, or_left, or_right, decide, eq→eqb}
use Rattle.coverage.proofs.Below.{found, find}
use Rattle.coverage.proofs.Order.{before-le, race-not-le}
use Rattle.coverage.proofs.Leads.{cover-below}

-- A record w between the two of an open race, that conflicts with both, and the second, are an open race.
module _ (t : Setting) (l : Laws t) (a w b : ℕ) (r : Race t a b) (o : Open t a b) (left : a < w) (right : w < b) (aw : T (t.conf a w)) (wb : T (t.conf w b)) where
  race-left : (T (before t a w) → ⊥) → Race t a w
  race-left n = record { first = left; inside = omega (arith, r.inside); conflict = aw; unordered = n }

  not-before : T (before t w b) → ⊥
  not-before h = go (decide (before t a w))
    where
      go : T (before t a w) ⊎ (T (before t a w) → ⊥) → ⊥
      go (inl k) = race-not-le t l a b r (l.le_trans _ _ _ (before-le t l a w k) (before-le t l w b h))
      go (inr n) = o _ (one (l.le_refl (t.ev a)) (race-left n) h)

  open-between : Race t w b × Open t w b
  open-between = (record { first = right; inside = r.inside; conflict = wb; unordered = not-before }, λ cs c. go c (decide (before t a w)))
    where
      go : {cs : List (ℕ × ℕ)} → CoversFrom t b (t.ev w) cs → T (before t a w) ⊎ (T (before t a w) → ⊥) → ⊥
      go c (inl k) = o _ (cover-below t l (before-le t l a w k) c)
      go c (inr n) = o _ (more (l.le_refl (t.ev a)) (race-left n) c)

module _ (s : Cells) where
  record Conflict (a b : ℕ) : Type 0 where
    access_a : T (s.is_access a)
    access_b : T (s.is_access b)
    same : s.cell a ≡ s.cell b
    written : T (s.is_write a || s.is_write b)

  conflict-of : (a b : ℕ) → T (conflicts s a b) → Conflict a b
  unfolding conflicts
  conflict-of a b h =
      let p = both (s.is_access a && s.is_access b) (eqb (s.cell a) (s.cell b) && (s.is_write a || s.is_write b)) h in
      let q = both (s.is_access a) (s.is_access b) p.0 in
      let r = both (eqb (s.cell a) (s.cell b)) (s.is_write a || s.is_write b) p.1 in
      record { access_a = q.0; access_b = q.1; same = eqb→eq (s.cell a) (s.cell b) r.0; written = r.1 }

  of-conflict : (a b : ℕ) → Conflict a b → T (conflicts s a b)
  unfolding conflicts
  of-conflict a b c = and (s.is_access a && s.is_access b) _ (and (s.is_access a) _ c.access_a c.access_b) (and (eqb (s.cell a) (s.cell b)) _ (eq→eqb (s.cell a) (s.cell b) c.same) c.written)

  -- the write that `write_between` finds; and that there is none where it finds none
  record Between (a b w : ℕ) : Type 0 where
    left : a < w
    right : w < b
    access : T (s.is_access w)
    write : T (s.is_write w)
    same : s.cell w ≡ s.cell b

  between : (a b : ℕ) → T (write_between s a b) → (w : ℕ) × Between a b w
  unfolding write_between
  between a b h =
      let (w, l, k) = found b (λ w. ltb a w && (writes s w && eqb (s.cell w) (s.cell b))) h in
      let p = both (ltb a w) (writes s w && eqb (s.cell w) (s.cell b)) k in
      let q = both (writes s w) (eqb (s.cell w) (s.cell b)) p.1 in
      let v = both (s.is_access w) (s.is_write w) q.0 in
      (w, record { left = ltb→lt a w p.0; right = l; access = v.0; write = v.1; same = eqb→eq (s.cell w) (s.cell b) q.1 })

  of-between : (a b w : ℕ) → a < w → w < b → s.cell w ≡ s.cell b → T (writes s w) → T (write_between s a b)
  unfolding write_between
  of-between a b w l m e v = find b (λ w. ltb a w && (writes s w && eqb (s.cell w) (s.cell b))) w m (and (ltb a w) _ (lt→ltb a w l) (and (writes s w) _ v (eq→eqb (s.cell w) (s.cell b) e)))

  -- the computed test, by its parts
  pub neighbour-of : (a b : ℕ) → a < b → T (conflicts s a b) → (T (write_between s a b) → ⊥) → T (neighbour s a b)
  unfolding neighbour
  neighbour-of a b l c n = and (ltb a b) _ (lt→ltb a b l) (and (conflicts s a b) _ c (not_T (write_between s a b) n))

  pub of-neighbour : (a b : ℕ) → T (neighbour s a b) → (a < b) × T (conflicts s a b) × (T (write_between s a b) → ⊥)
  unfolding neighbour
  of-neighbour a b h =
      let p = both (ltb a b) (conflicts s a b && not (write_between s a b)) h in
      let q = both (conflicts s a b) (not (write_between s a b)) p.1 in
      (ltb→lt a b p.0, q.0, T_not (write_between s a b) q.1)

  -- the test says the three families
  pub neighbour-iff : (a b : ℕ) → T (neighbour s a b) ↔ Neighbours s a b
  neighbour-iff a b = (λ h. let (l, c, n) = of-neighbour a b h in to l (conflict-of a b c) (λ w x y e v. n (of-between a b w x y e v)) (decide (s.is_write a)) (decide (s.is_write b)), from)
    where
      to : a < b → Conflict a b → NoWrite s a b → T (s.is_write a) ⊎ (T (s.is_write a) → ⊥) → T (s.is_write b) ⊎ (T (s.is_write b) → ⊥) → Neighbours s a b
      to l c n (inl h) (inl k) = write_write l c.same (and (s.is_access a) (s.is_write a) c.access_a h) (and (s.is_access b) (s.is_write b) c.access_b k) n
      to l c n (inl h) (inr k) = write_read l c.same (and (s.is_access a) (s.is_write a) c.access_a h) (and (s.is_access b) (not (s.is_write b)) c.access_b (not_T (s.is_write b) k)) n
      to l c n (inr h) (inl k) = read_write l c.same (and (s.is_access a) (not (s.is_write a)) c.access_a (not_T (s.is_write a) h)) (and (s.is_access b) (s.is_write b) c.access_b k) n
      to l c n (inr h) (inr k) = absurd (neither (either (s.is_write a) (s.is_write b) c.written))
        where
          neither : T (s.is_write a) ⊎ T (s.is_write b) → ⊥
          neither (inl x) = h x
          neither (inr x) = k x

      back : a < b → s.cell a ≡ s.cell b → T (s.is_access a) → T (s.is_access b) → T (s.is_write a || s.is_write b) → NoWrite s a b → T (neighbour s a b)
      back l e x y v n = neighbour-of a b l (of-conflict a b (record { access_a = x; access_b = y; same = e; written = v })) (λ h. let (w, f) = between a b h in n w f.left f.right f.same (and (s.is_access w) (s.is_write w) f.access f.write))

      from : Neighbours s a b → T (neighbour s a b)
      from (write_write l e x y n) = let (p, q) = both (s.is_access a) (s.is_write a) x in back l e p (both (s.is_access b) (s.is_write b) y).0 (or_left (s.is_write a) (s.is_write b) q) n
      from (write_read l e x y n) = let (p, q) = both (s.is_access a) (s.is_write a) x in back l e p (both (s.is_access b) (not (s.is_write b)) y).0 (or_left (s.is_write a) (s.is_write b) q) n
      from (read_write l e x y n) = let (p, q) = both (s.is_access b) (s.is_write b) y in back l e (both (s.is_access a) (not (s.is_write a)) x).0 p (or_right (s.is_write a) (s.is_write b) q) n

module _ (t : Setting) (l : Laws t) (s : Cells) (means : (a b : ℕ) → t.conf a b ≡ conflicts s a b) where
  of : (a b : ℕ) → Conflict s a b → T (t.conf a b)
  of a b c = subst T (sym (means a b)) (of-conflict s a b c)

  means-of : {a b : ℕ} → Race t a b → T (conflicts s a b)
  means-of {a} {b} r = subst T (means a b) r.conflict

  -- A write between the two of a race conflicts with both.
  pub parted : (a b : ℕ) → Race t a b → T (write_between s a b) → (w : ℕ) × (a < w) × (w < b) × T (t.conf a w) × T (t.conf w b)
  parted a b r f =
      let (w, v) = between s a b f in
      let c = conflict-of s a b (means-of r) in
      let aw = of a w (record { access_a = c.access_a; access_b = v.access; same = c.same ∙ sym v.same; written = or_right (s.is_write a) (s.is_write w) v.write }) in
      let wb = of w b (record { access_a = v.access; access_b = c.access_b; same = v.same; written = or_left (s.is_write w) (s.is_write b) v.write }) in
      (w, v.left, v.right, aw, wb)

  -- Where there is none, the two are neighbours.
  pub unparted : (a b : ℕ) → Race t a b → (T (write_between s a b) → ⊥) → T (neighbour s a b)
  unparted a b r n = neighbour-of s a b r.first (means-of r) n

  abbrev Found : ℕ → ℕ → Type 0
  Found a b = (p : ℕ) × (a ≤ p) × T (neighbour s p b) × Race t p b × Open t p b

  narrow : (k a b : ℕ) → b ≤ a + k → Race t a b → Open t a b → Found a b
  narrow zero a b h r o = absurd (omega (arith, r.first))
  narrow (suc k) a b h r o = go (decide (write_between s a b)) (narrow k)
    where
      go : T (write_between s a b) ⊎ (T (write_between s a b) → ⊥) → ((x y : ℕ) → y ≤ x + k → Race t x y → Open t x y → Found x y) → Found a b
      go (inl f) ih =
          let (w, left, right, aw, wb) = parted a b r f in
          let g = open-between t l a w b r o left right aw wb in
          let z = ih w b (omega arith) g.0 g.1 in
          (z.0, omega (arith, z.1), z.2, z.3, z.4)
      go (inr n) ih = (a, omega arith, unparted a b r n, r, o)

  -- An open race has neighbours with the same second, so on the same cell, that are an open race
  pub short-list : (a b : ℕ) → Race t a b → Open t a b → (p : ℕ) × (a ≤ p) × T (neighbour s p b) × Race t p b × Open t p b
  short-list a b r o = narrow b a b (omega arith) r o
