-- A slim trace has the races, the covers and the open races of the full one, but for those of dropped records.
use Prim.Native.Nat.{ℕ, ◌≤◌, ◌<◌}
use mathlib.Core.Path.{◌≡◌, refl, sym, ap, ◌∙◌, subst}
use mathlib.Core.Logic.{◌≢◌, ◌⊎◌, inl, inr, ◌↔◌}
use mathlib.Core.Bool.{Bool}
use mathlib.Core.List.{List, [], ◌∷◌}
use native.Mathlib.Omega.{arith}
use lib.Dec.{T}
use Rattle.coverage.specs.Setting.{Setting, Laws}
use Rattle.coverage.specs.Race.{Race}
use Rattle.coverage.specs.Cover.{CoversFrom, one, more, Open}
use Rattle.coverage.specs.Neighbours.{Cells, conflicts}
use Rattle.coverage.specs.Embedding.{Twin, Thinning, OpenOn, SameCells, Combination, SameCombinations}
use Rattle.slices.proofs.Tests.{decide, passed}
use Rattle.coverage.proofs.Order.{le-before, before-le, before-lt, race-not-le, race-apart}

-- the same accesses conflict
pub conflicts-same : (s s' : Cells) (a b a' b' : ℕ) → s'.is_access a' ≡ s.is_access a → s'.is_access b' ≡ s.is_access b → s'.cell a' ≡ s.cell a → s'.cell b' ≡ s.cell b → s'.is_write a' ≡ s.is_write a → s'.is_write b' ≡ s.is_write b → conflicts s' a' b' ≡ conflicts s a b
unfolding conflicts
conflicts-same s s' a b a' b' p q c d k l = rw (p, q, c, d, k, l)

-- c and a later record d of another event action: c stands before all of d's event action
pub ahead : (t : Setting) → Laws t → (c d x : ℕ) → c < d → d < t.size → t.ev c ≢ t.ev d → t.ev x ≡ t.ev d → c < x
ahead t w c d x l m n e =
    let f : x ≡ c → ⊥ = λ (q : x ≡ c). n (sym (ap t.ev q) ∙ e) in
    let g : x < c → ⊥ = λ (q : x < c). n (w.contiguous x c d q l m e ∙ e) in
    omega (arith, f, g)

-- i', a record of t', stands for the record i of t: the same one, or an earlier one of its kind
pub record StandsFor (t : Setting) (s : Cells) (t' : Setting) (s' : Cells) (old : ℕ → ℕ) (i i' : ℕ) : Type 0 where
  pub inside : i' < t'.size
  pub early : old i' ≤ i
  pub same_event : t'.ev i' ≡ t.ev i
  pub same_access : s'.is_access i' ≡ s.is_access i
  pub same_cell : s'.cell i' ≡ s.cell i
  pub same_kind : s'.is_write i' ≡ s.is_write i

module _ {t : Setting} {s : Cells} {t' : Setting} {s' : Cells} {keep : ℕ → Bool} {old : ℕ → ℕ} (w : Laws t) (h : Thinning t s t' s' keep old) where
  abbrev For : ℕ → ℕ → Type 0
  For = StandsFor t s t' s' old

  -- order of the numbers, and of the event actions
  pub climbs : (i j : ℕ) → i < t'.size → j < t'.size → old i < old j → i < j
  climbs i j l m k =
      let f : i ≡ j → ⊥ = λ (q : i ≡ j). omega (arith, ap old q) in
      let g : j < i → ⊥ = λ (q : j < i). omega (arith, h.increasing j i q l) in
      omega (arith, f, g)

  le-to : (u v : ℕ) → T (t.le u v) → T (t'.le u v)
  le-to u v k = subst T (sym (h.same-order u v)) k

  le_from : (u v : ℕ) → T (t'.le u v) → T (t.le u v)
  le_from u v k = subst T (h.same-order u v) k

  -- the slim trace has the laws
  pub laws : Laws t'
  laws = record {
    le_refl = λ u. le-to u u (w.le_refl u);
    le_trans = λ u v x p q. le-to u x (w.le_trans u v x (le_from u v p) (le_from v x q));
    forward = λ i j l m p n. climbs i j l m (w.forward (old i) (old j) (h.inside i l) (h.inside j m) (rw (h.same_event i l, h.same_event j m) at (le_from (t'.ev i) (t'.ev j) p)) (λ e. n (h.same_event i l ∙ (e ∙ sym (h.same_event j m)))));
    contiguous = λ i j k p q l e.
        let m : j < t'.size = omega arith in
        let o : i < t'.size = omega arith in
        h.same_event j m ∙ (w.contiguous (old i) (old j) (old k) (h.increasing i j p m) (h.increasing j k q l) (h.inside k l) (sym (h.same_event i o) ∙ (e ∙ h.same_event k l)) ∙ sym (h.same_event i o));
  }

  own : (i : ℕ) → i < t'.size → For (old i) i
  own i l = record { inside = l; early = omega arith; same_event = h.same_event i l; same_access = h.same_access i l; same_cell = h.same_cell i l; same_kind = h.same_kind i l }

  by-twin : {i j i' : ℕ} → Twin t s i j → For j i' → For i i'
  by-twin {i} {j} q x = record {
    inside = x.inside;
    early = omega (arith, q.earlier, x.early);
    same_event = x.same_event ∙ q.same_event;
    same_access = x.same_access ∙ (passed (s.is_access j) q.access_twin ∙ sym (passed (s.is_access i) q.access));
    same_cell = x.same_cell ∙ q.same_cell;
    same_kind = x.same_kind ∙ q.same_kind;
  }

  for-kept : (i : ℕ) → i < t.size → T (keep i) → (i' : ℕ) × For i i' × (old i' ≡ i)
  for-kept i l k = let (i', m, e) = h.each i l k in (i', subst (λ (x : ℕ). For x i') e (own i' m), e)

  -- every record has one that stands for it
  pub for-each : (i : ℕ) → i < t.size → (i' : ℕ) × For i i'
  for-each i l = go (decide (keep i))
    where
      go : T (keep i) ⊎ (T (keep i) → ⊥) → (i' : ℕ) × For i i'
      go (inl k) = let (i', x, e) = for-kept i l k in (i', x)
      go (inr n) = let (j, k, q) = h.twin i l n in let (i', x, e) = for-kept j (omega (arith, q.earlier)) k in (i', by-twin q x)

  -- races, with what stands for their records
  conf-same : {c d c' d' : ℕ} → For c c' → For d d' → t'.conf c' d' ≡ t.conf c d
  conf-same {c} {d} {c'} {d'} x y = h.means' c' d' ∙ (conflicts-same s s' c d c' d' x.same_access y.same_access x.same_cell y.same_cell x.same_kind y.same_kind ∙ sym (h.means c d))

  race-to : {c d c' d' : ℕ} → For c c' → For d d' → Race t c d → Race t' c' d'
  race-to {c} {d} {c'} {d'} x y r = record {
    first = climbs c' d' x.inside y.inside (omega (arith, x.early, ahead t w c d (old d') r.first r.inside (race-apart t w c d r) (sym (h.same_event d' y.inside) ∙ y.same_event)));
    inside = y.inside;
    conflict = subst T (sym (conf-same x y)) r.conflict;
    unordered = λ k. race-not-le t w c d r (rw (x.same_event, y.same_event) at (le_from (t'.ev c') (t'.ev d') (before-le t' laws c' d' k)));
  }

  race-from : {a b : ℕ} → Race t' a b → Race t (old a) (old b)
  race-from {a} {b} r =
      let l : a < t'.size = omega (arith, r.first, r.inside) in
      record {
        first = h.increasing a b r.first r.inside;
        inside = h.inside b r.inside;
        conflict = subst T (conf-same (own a l) (own b r.inside)) r.conflict;
        unordered = λ k. race-not-le t' laws a b r (rw (h.same_event a l, h.same_event b r.inside) (le-to (t.ev (old a)) (t.ev (old b)) (before-le t w (old a) (old b) k)));
      }

  -- The races of the slim trace are those of the full one between kept records.
  pub race-iff : (a b : ℕ) → a < t'.size → b < t'.size → Race t' a b ↔ Race t (old a) (old b)
  race-iff a b l m = (race-from, race-to (own a l) (own b m))

  -- An access's twin is the second of a race that covers the access's own.
  pub twin-race : {a b d : ℕ} → Race t a b → Twin t s b d → Race t a d
  twin-race {a} {b} {d} r q = record {
    first = ahead t w a b d r.first r.inside (race-apart t w a b r) q.same_event;
    inside = omega (arith, q.earlier, r.inside);
    conflict = subst T (h.means a b ∙ (sym (conflicts-same s s a b a d refl (passed (s.is_access d) q.access_twin ∙ sym (passed (s.is_access b) q.access)) refl q.same_cell refl q.same_kind) ∙ sym (h.means a d))) r.conflict;
    unordered = λ k. race-not-le t w a b r (rw q.same_event at (before-le t w a d k));
  }

  pub twin-covers : {a b d : ℕ} → Race t a b → Twin t s b d → CoversFrom t b (t.ev a) ((a, d) ∷ [])
  twin-covers {a} {b} {d} r q = one (w.le_refl (t.ev a)) (twin-race r q) (le-before t d b q.earlier (rw q.same_event (w.le_refl (t.ev b))))

  -- So the second of an open race is kept.
  pub open_kept : (a b : ℕ) → Race t a b → Open t a b → T (keep b)
  open_kept a b r o = go (decide (keep b))
    where
      go : T (keep b) ⊎ (T (keep b) → ⊥) → T (keep b)
      go (inl k) = k
      go (inr n) = let (d, k, q) = h.twin b r.inside n in absurd (o _ (twin-covers r q))

  -- covers, with what stands for their records
  cover-to : (b : ℕ) → b < t'.size → {u : ℕ} {cs : List (ℕ × ℕ)} → CoversFrom t (old b) u cs → (cs' : List (ℕ × ℕ)) × CoversFrom t' b u cs'
  cover-to b l (one {u = u} {c = c} {d = d} k r q) =
      let (c', x) = for-each c (omega (arith, r.first, r.inside)) in
      let (d', y) = for-each d r.inside in
      let m : d' < b = climbs d' b y.inside l (omega (arith, y.early, before-lt t w d (old b) r.inside (h.inside b l) q)) in
      (_, one (rw (← x.same_event) at (le-to u (t.ev c) k)) (race-to x y r) (le-before t' d' b m (rw (y.same_event, h.same_event b l) (le-to (t.ev d) (t.ev (old b)) (before-le t w d (old b) q)))))
  cover-to b l (more {u = u} {c = c} {d = d} k r q) =
      let (c', x) = for-each c (omega (arith, r.first, r.inside)) in
      let (d', y) = for-each d r.inside in
      let (cs, z) = cover-to b l q in
      (_, more (rw (← x.same_event) at (le-to u (t.ev c) k)) (race-to x y r) (subst (λ (v : ℕ). CoversFrom t' b v cs) (sym y.same_event) z))

  cover-from : (b : ℕ) → b < t'.size → {u : ℕ} {cs : List (ℕ × ℕ)} → CoversFrom t' b u cs → (cs' : List (ℕ × ℕ)) × CoversFrom t (old b) u cs'
  cover-from b l (one {u = u} {c = c} {d = d} k r q) =
      let e = h.same_event c (omega (arith, r.first, r.inside)) in
      let m = h.increasing d b (before-lt t' laws d b r.inside l q) l in
      (_, one (rw e at (le_from u (t'.ev c) k)) (race-from r) (le-before t (old d) (old b) m (rw (h.same_event d r.inside, h.same_event b l) at (le_from (t'.ev d) (t'.ev b) (before-le t' laws d b q)))))
  cover-from b l (more {u = u} {c = c} {d = d} k r q) =
      let e = h.same_event c (omega (arith, r.first, r.inside)) in
      let (cs, z) = cover-from b l q in
      (_, more (rw e at (le_from u (t'.ev c) k)) (race-from r) (subst (λ (v : ℕ). CoversFrom t (old b) v cs) (h.same_event d r.inside) z))

  -- What is covered is so by kept records.
  pub covers-iff : (b u : ℕ) → b < t'.size → ((cs : List (ℕ × ℕ)) × CoversFrom t (old b) u cs) ↔ ((cs : List (ℕ × ℕ)) × CoversFrom t' b u cs)
  covers-iff b u l = (λ c. cover-to b l c.1, λ c. cover-from b l c.1)

  -- open races
  open-to : (a b : ℕ) {a₀ : ℕ} → b < t'.size → For a₀ a → Open t a₀ (old b) → Open t' a b
  open-to a b l x o cs c = let (ds, z) = cover-from b l c in o ds (subst (λ (v : ℕ). CoversFrom t (old b) v ds) x.same_event z)

  open-from : (a b : ℕ) {a₀ : ℕ} → b < t'.size → For a₀ a → Open t' a b → Open t a₀ (old b)
  open-from a b l x o cs c = let (ds, z) = cover-to b l c in o ds (subst (λ (v : ℕ). CoversFrom t' b v ds) (sym x.same_event) z)

  pub open-iff : (a b : ℕ) → a < t'.size → b < t'.size → Open t' a b ↔ Open t (old a) (old b)
  open-iff a b l m = (open-from a b m (own a l), open-to a b m (own a l))

  -- "the same combinations of first event action and second access among its open races"
  pub same-combinations : SameCombinations t t' old
  same-combinations u b = (to, from)
    where
      to : Combination t u b → (b' : ℕ) × (old b' ≡ b) × Combination t' u b'
      to (a, e, r, o) =
          let (b', y, f) = for-kept b r.inside (open_kept a b r o) in
          let (a', x) = for-each a (omega (arith, r.first, r.inside)) in
          (b', f, (a', x.same_event ∙ e, race-to x y r, open-to a' b' y.inside x (subst (λ (v : ℕ). Open t a v) (sym f) o)))

      from : (b' : ℕ) × (old b' ≡ b) × Combination t' u b' → Combination t u b
      from (b', f, (a', e, r, o)) =
          let x = own a' (omega (arith, r.first, r.inside)) in
          (old a', sym x.same_event ∙ e, subst (λ (v : ℕ). Race t (old a') v) f (race-from r), subst (λ (v : ℕ). Open t (old a') v) f (open-from a' b' r.inside x o))

  -- "The slim trace has the same cells with an open race"
  pub same-cells : SameCells t s t' s'
  same-cells c = (to, from)
    where
      to : OpenOn t s c → OpenOn t' s' c
      to (a, b, r, e, o) = let (b', f, (a', _, q, k)) = (same-combinations (t.ev a) b).0 (a, refl, r, o) in (a', b', q, h.same_cell b' q.inside ∙ (ap s.cell f ∙ e), k)

      from : OpenOn t' s' c → OpenOn t s c
      from (a, b, r, e, o) = let l : a < t'.size = omega (arith, r.first, r.inside) in (old a, old b, race-from r, sym (h.same_cell b r.inside) ∙ e, (open-iff a b l r.inside).0 o)
