-- A slim trace that keeps the first and the last accesses has the open short-list pairs of the full one, but for those of dropped reads, and its marks.
use Prim.Native.Nat.{ℕ, zero, suc, ◌+◌, ◌≤◌, ◌<◌}
use mathlib.Core.Path.{◌≡◌, refl, sym, ap, ◌∙◌, subst}
use mathlib.Core.Logic.{◌≢◌, ◌⊎◌, inl, inr, ◌↔◌}
use mathlib.Core.Bool.{Bool}
use native.Mathlib.Omega.{arith}
use lib.Dec.{T}
use Rattle.coverage.specs.Below.{Listed}
use Rattle.coverage.specs.Setting.{Setting, Laws}
use Rattle.coverage.specs.Race.{Race}
use Rattle.coverage.specs.Cover.{CoversFrom, Open}
use Rattle.coverage.specs.Lists.{short_list}
use Rattle.coverage.specs.Neighbours.{Cells, writes, reads, NoWrite, Neighbours, write_write, write_read, read_write}
use Rattle.coverage.specs.Embedding.{Twin, Thinning}
use Rattle.coverage.specs.Marks.{OpenPair, HasOpen, Same, Local, Narrowing, SameMarks, KeepsFirst, KeepsLast}
use Rattle.slices.proofs.Tests.{decide, decide_eq, passed}
use Rattle.coverage.proofs.Order.{before-le, race-not-le, race-apart, after}
use Rattle.coverage.proofs.Pairs.{in-short}
use Rattle.coverage.proofs.Embedded.{conflicts-same, ahead, StandsFor, climbs, for-each, race-iff, open-iff, open_kept}

-- the open short-list pairs are those of the list
pub pair-listed : (t : Setting) (s : Cells) (c a b : ℕ) → OpenPair t s c a b ↔ (Listed a b (short_list t s) × (s.cell b ≡ c) × Open t a b)
pair-listed t s c a b = (λ p. ((in-short t s a b).1 (p.neighbours, p.race), p.on, p.uncovered), λ (l, e, o). let (n, r) = (in-short t s a b).0 l in record { neighbours = n; race = r; on = e; uncovered = o })

-- i' among s' is an access as i among s
record Like (s s' : Cells) (i i' : ℕ) : Type 0 where
  access : s'.is_access i' ≡ s.is_access i
  at : s'.cell i' ≡ s.cell i
  kind : s'.is_write i' ≡ s.is_write i

module _ {s s' : Cells} where
  writes-like : {i i' : ℕ} → Like s s' i i' → writes s' i' ≡ writes s i
  writes-like k = rw (k.access, k.kind)

  reads-like : {i i' : ℕ} → Like s s' i i' → reads s' i' ≡ reads s i
  reads-like k = rw (k.access, k.kind)

back : {s s' : Cells} {i i' : ℕ} → Like s s' i i' → Like s' s i' i
back k = record { access = sym k.access; at = sym k.at; kind = sym k.kind }

itself : {s : Cells} {i : ℕ} → Like s s i i
itself = record { access = refl; at = refl; kind = refl }

twin-like : {t : Setting} {s : Cells} {i j : ℕ} → Twin t s i j → Like s s j i
twin-like {s = s} {i} {j} q = record { access = passed (s.is_access i) q.access ∙ sym (passed (s.is_access j) q.access_twin); at = sym q.same_cell; kind = sym q.same_kind }

-- a twin of a write writes
twin-writes : {t : Setting} {s : Cells} {i j : ℕ} → Twin t s i j → T (writes s j) → T (writes s i)
twin-writes q x = subst T (sym (writes-like (twin-like q))) x

writes-twin : {t : Setting} {s : Cells} {i j : ℕ} → Twin t s i j → T (writes s i) → T (writes s j)
writes-twin q x = subst T (writes-like (twin-like q)) x

no_write : {s : Cells} {a b : ℕ} → Neighbours s a b → NoWrite s a b
no_write (write_write l e x y n) = n
no_write (write_read l e x y n) = n
no_write (read_write l e x y n) = n

on_one : {s : Cells} {a b : ℕ} → Neighbours s a b → s.cell a ≡ s.cell b
on_one (write_write l e x y n) = e
on_one (write_read l e x y n) = e
on_one (read_write l e x y n) = e

-- neighbours, as like accesses with no write between
neighbours-like : {s s' : Cells} {a b a' b' : ℕ} → Like s s' a a' → Like s s' b b' → a' < b' → NoWrite s' a' b' → Neighbours s a b → Neighbours s' a' b'
neighbours-like p q l n (write_write _ e x y _) = write_write l (p.at ∙ (e ∙ sym q.at)) (subst T (sym (writes-like p)) x) (subst T (sym (writes-like q)) y) n
neighbours-like p q l n (write_read _ e x y _) = write_read l (p.at ∙ (e ∙ sym q.at)) (subst T (sym (writes-like p)) x) (subst T (sym (reads-like q)) y) n
neighbours-like p q l n (read_write _ e x y _) = read_write l (p.at ∙ (e ∙ sym q.at)) (subst T (sym (reads-like p)) x) (subst T (sym (writes-like q)) y) n

module _ {t : Setting} {s : Cells} {t' : Setting} {s' : Cells} {keep : ℕ → Bool} {old : ℕ → ℕ} (w : Laws t) (h : Thinning t s t' s' keep old) where
  own_like : (i : ℕ) → i < t'.size → Like s s' (old i) i
  own_like i l = record { access = h.same_access i l; at = h.same_cell i l; kind = h.same_kind i l }

  for-like : {i i' : ℕ} → StandsFor t s t' s' old i i' → Like s s' i i'
  for-like x = record { access = x.same_access; at = x.same_cell; kind = x.same_kind }

  -- The slim trace has the same cells with reads that all follow a write in their event action.
  pub same-local : (c : ℕ) → Local t s c ↔ Local t' s' c
  same-local c = (to, from)
    where
      to : Local t s c → Local t' s' c
      to f i l e x =
          let k = own_like i l in
          let (j, m, v, d, y) = f (old i) (h.inside i l) (sym k.at ∙ e) (subst T (reads-like k) x) in
          let (j', z) = for-each w h j (omega (arith, h.inside i l)) in
          (j', climbs w h j' i z.inside l (omega (arith, z.early)), z.same_event ∙ (v ∙ sym (h.same_event i l)), z.same_cell ∙ d, subst T (sym (writes-like (for-like z))) y)

      from : Local t' s' c → Local t s c
      from f i l e x =
          let (i', z) = for-each w h i l in
          let k = for-like z in
          let (j, m, v, d, y) = f i' z.inside (k.at ∙ e) (subst T (sym (reads-like k)) x) in
          let n : j < t'.size = omega (arith, z.inside) in
          let q = own_like j n in
          (old j, omega (arith, h.increasing j i' m z.inside, z.early), sym (h.same_event j n) ∙ (v ∙ z.same_event), sym q.at ∙ d, subst T (writes-like q) y)

module _ {t : Setting} {s : Cells} {tag : ℕ → ℕ} {t' : Setting} {s' : Cells} {tag' : ℕ → ℕ} {keep : ℕ → Bool} {old : ℕ → ℕ} (w : Laws t) (g : Narrowing t s tag t' s' tag' keep old) where
  abbrev h : Thinning t s t' s' keep old
  h = g.thinning

  like : (i : ℕ) → i < t'.size → Like s s' (old i) i
  like = own_like w h

  -- no write of the cell between them in the full trace: none in the slim one
  unparted-to : (a b : ℕ) → b < t'.size → NoWrite s (old a) (old b) → NoWrite s' a b
  unparted-to a b m n v x y e z =
      let l : v < t'.size = omega arith in
      n (old v) (h.increasing a v x l) (h.increasing v b y m) (sym (like v l).at ∙ (e ∙ (like b m).at)) (subst T (writes-like (like v l)) z)

  -- nor the other way round: one that is dropped has its twins, and these are kept
  module _ (a b : ℕ) (r : Race t (old a) (old b)) (l : a < t'.size) (m : b < t'.size) (n : NoWrite s' a b) where
    none_kept : (v : ℕ) → T (keep v) → old a < v → v < old b → s.cell v ≡ s.cell (old b) → T (writes s v) → ⊥
    none_kept v k x y e z =
        let (v', p, f) = h.each v (omega (arith, h.inside b m)) k in
        let q = like v' p in
        n v' (climbs w h a v' l p (omega arith)) (climbs w h v' b p m (omega arith)) (q.at ∙ (ap s.cell f ∙ (e ∙ sym (like b m).at))) (subst T (sym (writes-like q ∙ ap (writes s) f)) z)

    unparted-from : NoWrite s (old a) (old b)
    unparted-from v x y e z = go (decide (keep v))
      where
        by_last : t.ev v ≡ t.ev (old a) → (T (keep v) → ⊥) → ⊥
        by_last f k =
            let (j, p, d, q) = g.later v (omega (arith, h.inside b m)) k in
            none_kept j d (omega (arith, q.earlier)) (after t w j (old a) (old b) p (sym f ∙ q.same_event) r.first (race-apart t w (old a) (old b) r)) (sym q.same_cell ∙ e) (twin-writes q z)

        by_first : t.ev v ≢ t.ev (old a) → (T (keep v) → ⊥) → ⊥
        by_first f k =
            let p : v < t.size = omega (arith, h.inside b m) in
            let (j, d, q) = h.twin v p k in
            none_kept j d (ahead t w (old a) v j x p (λ c. f (sym c)) q.same_event) (omega (arith, q.earlier)) (q.same_cell ∙ e) (writes-twin q z)

        go : T (keep v) ⊎ (T (keep v) → ⊥) → ⊥
        go (inl k) = none_kept v k x y e z
        go (inr k) = split (decide_eq (t.ev v) (t.ev (old a)))
          where
            split : (t.ev v ≡ t.ev (old a)) ⊎ (t.ev v ≢ t.ev (old a)) → ⊥
            split (inl f) = by_last f k
            split (inr f) = by_first f k

  -- The open short-list pairs of the slim trace are those of the full one between kept records.
  pub pair-iff : (c a b : ℕ) → a < t'.size → b < t'.size → OpenPair t s c (old a) (old b) ↔ OpenPair t' s' c a b
  pair-iff c a b l m = (to, from)
    where
      to : OpenPair t s c (old a) (old b) → OpenPair t' s' c a b
      to p =
          let r = (race-iff w h a b l m).1 p.race in
          record {
            neighbours = neighbours-like (like a l) (like b m) r.first (unparted-to a b m (no_write p.neighbours)) p.neighbours;
            race = r;
            on = (like b m).at ∙ p.on;
            uncovered = (open-iff w h a b l m).1 p.uncovered;
          }

      from : OpenPair t' s' c a b → OpenPair t s c (old a) (old b)
      from p =
          let r = (race-iff w h a b l m).0 p.race in
          record {
            neighbours = neighbours-like (back (like a l)) (back (like b m)) r.first (unparted-from a b r l m (no_write p.neighbours)) p.neighbours;
            race = r;
            on = sym (like b m).at ∙ p.on;
            uncovered = (open-iff w h a b l m).0 p.uncovered;
          }

  -- A twin after the first of an open short-list pair is the first of one too, with the same second; so the first reads.
  module _ {c a b j : ℕ} (p : OpenPair t s c a b) (l : j < t.size) (q : Twin t s j a) where
    ahead_of : j < b
    ahead_of = after t w j a b l q.same_event p.race.first (race-apart t w a b p.race)

    twin-pair : OpenPair t s c j b
    twin-pair = record {
      neighbours = neighbours-like (twin-like q) itself ahead_of (λ v x y. no_write p.neighbours v (omega (arith, q.earlier)) y) p.neighbours;
      race = record {
        first = ahead_of;
        inside = p.race.inside;
        conflict = subst T (h.means a b ∙ (sym (conflicts-same s s a b j b (twin-like q).access refl (twin-like q).at refl (twin-like q).kind refl) ∙ sym (h.means j b))) p.race.conflict;
        unordered = λ k. race-not-le t w a b p.race (rw q.same_event (before-le t w j b k));
      };
      on = p.on;
      uncovered = λ cs x. p.uncovered cs (subst (λ (u : ℕ). CoversFrom t b u cs) (sym q.same_event) x);
    }

    twin-reads : T (writes s a) → ⊥
    twin-reads x = no_write p.neighbours j q.earlier ahead_of (sym q.same_cell ∙ on_one p.neighbours) (twin-writes q x)

  -- So an open short-list pair has one between kept records, with the same second and a first of the same kind, and the same if that writes.
  record Last (c a b : ℕ) : Type 0 where
    first : ℕ
    kept : T (keep first)
    pair : OpenPair t s c first b
    kind : writes s first ≡ writes s a
    itself : T (writes s a) → first ≡ a

  last : (c a b : ℕ) → OpenPair t s c a b → Last c a b
  last c a b p = go (decide (keep a))
    where
      go : T (keep a) ⊎ (T (keep a) → ⊥) → Last c a b
      go (inl k) = record { first = a; kept = k; pair = p; kind = refl; itself = λ x. refl }
      go (inr n) =
          let (j, l, k, q) = g.later a (omega (arith, p.race.first, p.race.inside)) n in
          record { first = j; kept = k; pair = twin-pair p l q; kind = writes-like (twin-like q); itself = λ x. absurd (twin-reads p l q x) }

  record Slim (c a b : ℕ) : Type 0 where
    first : ℕ
    second : ℕ
    pair : OpenPair t' s' c first second
    kind : writes s' first ≡ writes s a
    same : old second ≡ b
    itself : T (writes s a) → old first ≡ a

  slim : (c a b : ℕ) → OpenPair t s c a b → Slim c a b
  slim c a b p =
      let z = last c a b p in
      let r = z.pair.race in
      let (i, l, e) = h.each z.first (omega (arith, r.first, r.inside)) z.kept in
      let (j, m, f) = h.each b r.inside (open_kept w h a b p.race p.uncovered) in
      record {
        first = i;
        second = j;
        pair = (pair-iff c i j l m).0 (rw (e, f) z.pair);
        kind = writes-like (like i l) ∙ (ap (writes s) e ∙ z.kind);
        same = f;
        itself = λ x. e ∙ z.itself x;
      }

  fat : {c a b : ℕ} → OpenPair t' s' c a b → OpenPair t s c (old a) (old b)
  fat {c} {a} {b} p = (pair-iff c a b (omega (arith, p.race.first, p.race.inside)) p.race.inside).1 p

  -- The slim trace has the same cells with an open short-list pair.
  pub same-open : (c : ℕ) → HasOpen t s c ↔ HasOpen t' s' c
  same-open c = (λ (a, b, p). let z = slim c a b p in (z.first, z.second, z.pair), λ (a, b, p). (old a, old b, fat p))

  -- The slim trace has the same cells with open short-list pairs that are all write-write with tags so related.
  pub same-related : (P : ℕ → ℕ → Type 0) (c : ℕ) → ((a b : ℕ) → OpenPair t s c a b → T (writes s a) × T (writes s b) × P (tag a) (tag b)) ↔ ((a b : ℕ) → OpenPair t' s' c a b → T (writes s' a) × T (writes s' b) × P (tag' a) (tag' b))
  same-related P c = (to, from)
    where
      to : ((a b : ℕ) → OpenPair t s c a b → T (writes s a) × T (writes s b) × P (tag a) (tag b)) → (a b : ℕ) → OpenPair t' s' c a b → T (writes s' a) × T (writes s' b) × P (tag' a) (tag' b)
      to f a b p =
          let l : a < t'.size = omega (arith, p.race.first, p.race.inside) in
          let m = p.race.inside in
          let (x, y, e) = f (old a) (old b) (fat p) in
          (subst T (sym (writes-like (like a l))) x, subst T (sym (writes-like (like b m))) y, rw (g.same_tag a l, g.same_tag b m) e)

      from : ((a b : ℕ) → OpenPair t' s' c a b → T (writes s' a) × T (writes s' b) × P (tag' a) (tag' b)) → (a b : ℕ) → OpenPair t s c a b → T (writes s a) × T (writes s b) × P (tag a) (tag b)
      from f a b p =
          let z = slim c a b p in
          let r = z.pair.race in
          let l : z.first < t'.size = omega (arith, r.first, r.inside) in
          let m = r.inside in
          let (x, y, e) = f z.first z.second z.pair in
          let v = subst T z.kind x in
          (v, subst T (writes-like (like z.second m) ∙ ap (writes s) z.same) y, rw (g.same_tag z.first l, z.itself v, g.same_tag z.second m, z.same) at e)

  -- The slim trace has the same cells with open short-list pairs that are all write-write with equal tags.
  pub same-same : (c : ℕ) → Same t s tag c ↔ Same t' s' tag' c
  same-same = same-related (λ x y. x ≡ y)

  -- "so that the slim trace gives each cell the same marks"
  pub same-marks : SameMarks t s tag t' s' tag'
  same-marks = record {
    marked_same = λ c. (λ (o, x). ((same-open c).0 o, (same-same c).0 x), λ (o, x). ((same-open c).1 o, (same-same c).1 x));
    marked_local = λ c. (λ (o, x). ((same-open c).0 o, (same-local w h c).0 x), λ (o, x). ((same-open c).1 o, (same-local w h c).1 x));
  }

-- twins of twins
twin-twin : {t : Setting} {s : Cells} {i j k : ℕ} → Twin t s i j → Twin t s j k → Twin t s i k
twin-twin p q = record {
  earlier = omega (arith, p.earlier, q.earlier);
  same_event = q.same_event ∙ p.same_event;
  access = p.access;
  access_twin = q.access_twin;
  same_cell = q.same_cell ∙ p.same_cell;
  same_kind = q.same_kind ∙ p.same_kind;
}

-- Where the first are kept, what is dropped has a kept twin before it; where the last are, after it.
module _ (t : Setting) (s : Cells) (keep : ℕ → Bool) where
  abbrev Dropped : ℕ → Type 0
  Dropped i = T (keep i) → ⊥

  abbrev KeptBefore : ℕ → Type 0
  KeptBefore i = (j : ℕ) × T (keep j) × Twin t s i j

  abbrev KeptAfter : ℕ → Type 0
  KeptAfter i = (j : ℕ) × (j < t.size) × T (keep j) × Twin t s j i

  kept-before : KeepsFirst t s keep → (k i : ℕ) → i < k → i < t.size → Dropped i → KeptBefore i
  kept-before f zero i l m n = absurd (omega arith)
  kept-before f (suc k) i l m n = go (f i m n) (kept-before f k)
    where
      go : (j : ℕ) × Twin t s i j → ((j : ℕ) → j < k → j < t.size → Dropped j → KeptBefore j) → KeptBefore i
      go (j, q) ih = at (decide (keep j))
        where
          at : T (keep j) ⊎ (T (keep j) → ⊥) → KeptBefore i
          at (inl d) = (j, d, q)
          at (inr d) = let (x, e, p) = ih j (omega (arith, q.earlier)) (omega (arith, q.earlier)) d in (x, e, twin-twin q p)

  kept-after : KeepsLast t s keep → (k i : ℕ) → t.size ≤ i + k → i < t.size → Dropped i → KeptAfter i
  kept-after f zero i l m n = absurd (omega arith)
  kept-after f (suc k) i l m n = go (f i m n) (kept-after f k)
    where
      go : (j : ℕ) × (j < t.size) × Twin t s j i → ((j : ℕ) → t.size ≤ j + k → j < t.size → Dropped j → KeptAfter j) → KeptAfter i
      go (j, y, q) ih = at (decide (keep j))
        where
          at : T (keep j) ⊎ (T (keep j) → ⊥) → KeptAfter i
          at (inl d) = (j, y, d, q)
          at (inr d) = let (x, z, e, p) = ih j (omega (arith, q.earlier)) y d in (x, z, e, twin-twin p q)

  pub first-twin : KeepsFirst t s keep → (i : ℕ) → i < t.size → (T (keep i) → ⊥) → (j : ℕ) × T (keep j) × Twin t s i j
  first-twin f i = kept-before f (suc i) i (omega arith)

  pub last-twin : KeepsLast t s keep → (i : ℕ) → i < t.size → (T (keep i) → ⊥) → (j : ℕ) × (j < t.size) × T (keep j) × Twin t s j i
  last-twin f i = kept-after f t.size i (omega arith)
