-- The computed marks of a cell are the literal ones.
use Prim.Native.Nat.{ℕ, ◌+◌, ◌<◌}
use mathlib.Core.Path.{◌≡◌, sym, ◌∙◌}
use mathlib.Core.Logic.{◌⊎◌, inl, inr, ◌↔◌}
use mathlib.Core.Bool.{Bool, true, false, cond, not, ◌&&◌}
use native.Mathlib.Omega.{arith}
use lib.Dec.{T, eqb, eqb→eq}
use Rattle.slices.proofs.Tests.{both, and, decide, eq→eqb, passed, failed}
use Rattle.coverage.specs.Below.{some}
use Rattle.coverage.specs.Setting.{Setting, Laws}
use Rattle.coverage.specs.Race.{raceb}
use Rattle.coverage.specs.Leading.{coveredb}
use Rattle.coverage.specs.Neighbours.{Cells, writes, reads, neighbour}
use Rattle.coverage.specs.Marks.{OpenPair, HasOpen, Same, Local, some_open, equal_writes, sameb, follows_write, localb, marks_of, Marks}
use Rattle.coverage.proofs.Below.{found, find}
use Rattle.coverage.proofs.Leads.{open-iff}
use Rattle.coverage.proofs.Order.{race-of, of-race}
use Rattle.coverage.proofs.Short.{neighbour-iff}
use Rattle.coverage.proofs.Indexed.{no-not, not-no}

module _ (t : Setting) (w : Laws t) (s : Cells) where
  -- an open short-list pair of c, by its tests
  of_pair : {c a b : ℕ} → OpenPair t s c a b → (p : ℕ → ℕ → Bool) → T (p a b) → T (some_open t s c p)
  unfolding some_open
  of_pair {c} {a} {b} q p h =
      let on-cell = eq→eqb (s.cell b) c q.on in
      let race = and (neighbour s a b) (raceb t a b) ((neighbour-iff s a b).1 q.neighbours) (of-race t a b q.race) in
      let uncovered = not-no (coveredb t a b) (λ k. no-not (coveredb t a b) k (rw ((open-iff t w a b q.race).1 q.uncovered) tt)) in
      find t.size _ b q.race.inside
      (find b _ a q.race.first
      (and ((neighbour s a b && raceb t a b) && eqb (s.cell b) c) (not (coveredb t a b) && p a b)
      (and (neighbour s a b && raceb t a b) (eqb (s.cell b) c) race on-cell)
      (and (not (coveredb t a b)) (p a b) uncovered h)))

  pair_of : (c : ℕ) (p : ℕ → ℕ → Bool) → T (some_open t s c p) → (a b : ℕ) × OpenPair t s c a b × T (p a b)
  unfolding some_open
  pair_of c p h =
      let (b, l, k) = found t.size _ h in
      let (a, m, j) = found b _ k in
      let (x, y) = both ((neighbour s a b && raceb t a b) && eqb (s.cell b) c) (not (coveredb t a b) && p a b) j in
      let (n, e) = both (neighbour s a b && raceb t a b) (eqb (s.cell b) c) x in
      let (o, q) = both (not (coveredb t a b)) (p a b) y in
      let (i, r) = both (neighbour s a b) (raceb t a b) n in
      let race = race-of t a b r in
      let open-there = (open-iff t w a b race).0 (failed (coveredb t a b) (λ z. no-not (coveredb t a b) z o)) in
      (a, b, record { neighbours = (neighbour-iff s a b).0 i; race = race; on = eqb→eq (s.cell b) c e; uncovered = open-there }, q)

  pub has-open : (c : ℕ) → T (some_open t s c (λ a b. true)) ↔ HasOpen t s c
  has-open c = (λ h. let (a, b, q, _) = pair_of c (λ a b. true) h in (a, b, q), λ (a, b, q). of_pair q (λ a b. true) tt)

  alike_of : (tag : ℕ → ℕ) (a b : ℕ) → T (equal_writes t s tag a b) ↔ (T (writes s a) × T (writes s b) × (tag a ≡ tag b))
  unfolding equal_writes
  alike_of tag a b = (to, λ (x, y, e). and (writes s a) _ x (and (writes s b) _ y (eq→eqb (tag a) (tag b) e)))
    where
      to : T (writes s a && (writes s b && eqb (tag a) (tag b))) → T (writes s a) × T (writes s b) × (tag a ≡ tag b)
      to h =
          let (x, k) = both (writes s a) (writes s b && eqb (tag a) (tag b)) h in
          let (y, e) = both (writes s b) (eqb (tag a) (tag b)) k in
          (x, y, eqb→eq (tag a) (tag b) e)

  pub same-iff : (tag : ℕ → ℕ) (c : ℕ) → T (sameb t s tag c) ↔ Same t s tag c
  unfolding sameb
  same-iff tag c = (to, from)
    where
      unlike : ℕ → ℕ → Bool
      unlike a b = not (equal_writes t s tag a b)

      to : T (not (some_open t s c unlike)) → Same t s tag c
      to h a b q = go (decide (equal_writes t s tag a b))
        where
          go : T (equal_writes t s tag a b) ⊎ (T (equal_writes t s tag a b) → ⊥) → T (writes s a) × T (writes s b) × (tag a ≡ tag b)
          go (inl k) = (alike_of tag a b).0 k
          go (inr k) = absurd (no-not (some_open t s c unlike) (of_pair q unlike (not-no (equal_writes t s tag a b) k)) h)

      from : Same t s tag c → T (not (some_open t s c unlike))
      from h = not-no (some_open t s c unlike) (λ k. let (a, b, q, n) = pair_of c unlike k in no-not (equal_writes t s tag a b) ((alike_of tag a b).1 (h a b q)) n)

  follows-iff : (i : ℕ) → T (follows_write t s i) ↔ ((j : ℕ) × (j < i) × (t.ev j ≡ t.ev i) × (s.cell j ≡ s.cell i) × T (writes s j))
  unfolding follows_write
  follows-iff i = (to, λ (j, l, e, c, h). from j l e c h)
    where
      to : T (follows_write t s i) → (j : ℕ) × (j < i) × (t.ev j ≡ t.ev i) × (s.cell j ≡ s.cell i) × T (writes s j)
      to h =
          let (j, l, k) = found i _ h in
          let (x, y) = both (eqb (t.ev j) (t.ev i) && eqb (s.cell j) (s.cell i)) (writes s j) k in
          let (e, c) = both (eqb (t.ev j) (t.ev i)) (eqb (s.cell j) (s.cell i)) x in
          (j, l, eqb→eq _ _ e, eqb→eq _ _ c, y)

      from : (j : ℕ) → j < i → t.ev j ≡ t.ev i → s.cell j ≡ s.cell i → T (writes s j) → T (follows_write t s i)
      from j l e c h =
          let there = and (eqb (t.ev j) (t.ev i)) (eqb (s.cell j) (s.cell i)) (eq→eqb _ _ e) (eq→eqb _ _ c) in
          find i _ j l (and (eqb (t.ev j) (t.ev i) && eqb (s.cell j) (s.cell i)) (writes s j) there h)

  pub local-iff : (c : ℕ) → T (localb t s c) ↔ Local t s c
  unfolding localb
  local-iff c = (to, from)
    where
      alone : ℕ → Bool
      alone i = (eqb (s.cell i) c && reads s i) && not (follows_write t s i)

      to : T (not (some t.size alone)) → Local t s c
      to h i l e r = go (decide (follows_write t s i))
        where
          lone : (T (follows_write t s i) → ⊥) → T (alone i)
          lone k = and (eqb (s.cell i) c && reads s i) _ (and (eqb (s.cell i) c) (reads s i) (eq→eqb _ _ e) r) (not-no (follows_write t s i) k)

          go : T (follows_write t s i) ⊎ (T (follows_write t s i) → ⊥) → (j : ℕ) × (j < i) × (t.ev j ≡ t.ev i) × (s.cell j ≡ c) × T (writes s j)
          go (inl k) = let (j, m, v, d, x) = (follows-iff i).0 k in (j, m, v, d ∙ e, x)
          go (inr k) = absurd (no-not (some t.size alone) (find t.size alone i l (lone k)) h)

      from : Local t s c → T (not (some t.size alone))
      from h = not-no (some t.size alone) none
        where
          none : T (some t.size alone) → ⊥
          none k =
              let (i, l, x) = found t.size alone k in
              let (y, n) = both (eqb (s.cell i) c && reads s i) (not (follows_write t s i)) x in
              let (e, r) = both (eqb (s.cell i) c) (reads s i) y in
              let (j, m, v, d, z) = h i l (eqb→eq _ _ e) r in
              no-not (follows_write t s i) ((follows-iff i).1 (j, m, v, d ∙ sym (eqb→eq _ _ e), z)) n

  -- the number says both marks
  pub marks-are : (tag : ℕ → ℕ) (c : ℕ) → Marks t s tag c (marks_of t s tag c)
  unfolding marks_of
  marks-are tag c = go (decide opens) (decide same) (decide near)
    where
      opens : Bool
      opens = some_open t s c (λ a b. true)

      same : Bool
      same = sameb t s tag c

      near : Bool
      near = localb t s c

      number : ℕ
      number = cond opens (cond same 1 0 + cond near 2 0) 0

      is : (o x y : Bool) → opens ≡ o → same ≡ x → near ≡ y → number ≡ cond o (cond x 1 0 + cond y 2 0) 0
      is o x y e f g = rw (e, f, g)

      -- neither of two numbers
      other : {m n k : ℕ} {A : Type 0} → k ≡ m → (m ≡ n → ⊥) → (m ≡ 3 → ⊥) → (k ≡ n) ⊎ (k ≡ 3) → A
      other e f g (inl h) = absurd (f (sym e ∙ h))
      other e f g (inr h) = absurd (g (sym e ∙ h))

      go : T opens ⊎ (T opens → ⊥) → T same ⊎ (T same → ⊥) → T near ⊎ (T near → ⊥) → Marks t s tag c number
      go (inr k) f g =
          let e : number ≡ 0 = rw (failed opens k) in
          record {
            is_same = (other e (λ h. omega arith) (λ h. omega arith), λ (o, _). absurd (k ((has-open c).1 o)));
            is_local = (other e (λ h. omega arith) (λ h. omega arith), λ (o, _). absurd (k ((has-open c).1 o)));
            no_more = omega (arith, e);
          }
      go (inl k) (inl f) (inl g) =
          let e = is true true true (passed opens k) (passed same f) (passed near g) in
          let o = (has-open c).0 k in
          record {
            is_same = (λ _. (o, (same-iff tag c).0 f), λ _. inr e);
            is_local = (λ _. (o, (local-iff c).0 g), λ _. inr e);
            no_more = omega (arith, e);
          }
      go (inl k) (inl f) (inr g) =
          let e = is true true false (passed opens k) (passed same f) (failed near g) in
          let o = (has-open c).0 k in
          record {
            is_same = (λ _. (o, (same-iff tag c).0 f), λ _. inl e);
            is_local = (other e (λ h. omega arith) (λ h. omega arith), λ (_, l). absurd (g ((local-iff c).1 l)));
            no_more = omega (arith, e);
          }
      go (inl k) (inr f) (inl g) =
          let e = is true false true (passed opens k) (failed same f) (passed near g) in
          let o = (has-open c).0 k in
          record {
            is_same = (other e (λ h. omega arith) (λ h. omega arith), λ (_, l). absurd (f ((same-iff tag c).1 l)));
            is_local = (λ _. (o, (local-iff c).0 g), λ _. inl e);
            no_more = omega (arith, e);
          }
      go (inl k) (inr f) (inr g) =
          let e = is true false false (passed opens k) (failed same f) (failed near g) in
          record {
            is_same = (other e (λ h. omega arith) (λ h. omega arith), λ (_, l). absurd (f ((same-iff tag c).1 l)));
            is_local = (other e (λ h. omega arith) (λ h. omega arith), λ (_, l). absurd (g ((local-iff c).1 l)));
            no_more = omega (arith, e);
          }
