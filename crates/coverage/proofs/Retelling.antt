-- The kept records are the shortest retelling: every arrangement that runs b without a holds them, and in trace order there is no other of the same
-- event actions.
use Prim.Native.Nat.{ℕ, suc, ◌≤◌, ◌<◌}
use mathlib.Core.Path.{◌≡◌, refl, sym, ap, ◌∙◌, subst}
use mathlib.Core.Logic.{◌≢◌, ◌⊎◌, inl, inr, ◌↔◌}
use mathlib.Core.List.Memᴰ
use mathlib.Core.List.{List, [], ◌∷◌}
use native.Mathlib.Omega.{arith}
use lib.Dec.{T}
use lib.ListN.{length}
use Rattle.coverage.specs.Below.{◌∈◌, Listed}
use Rattle.coverage.specs.Setting.{Setting, Laws}
use Rattle.coverage.specs.Race.{Race}
use Rattle.coverage.specs.Cover.{Open}
use Rattle.coverage.specs.Arrangement.{Earlier, here, there, Last, Distinct, Arrangement, Accesses}
use Rattle.coverage.specs.Leading.{leads, kept, last_kept, entries}
use Rattle.coverage.specs.Retelling.{Contains, Runs, InTraceOrder, Shortest}
use Rattle.slices.proofs.Tests.{both, decide_eq}
use Rattle.coverage.proofs.Lists.{earlier-left, earlier-right, not_last, not_back, in_map, in-upto, upto-rising}
use Rattle.coverage.proofs.Order.{le-before}
use Rattle.coverage.proofs.Leads.{leads-ahead}
use Rattle.coverage.proofs.Needed.{in-records, minimal, accesses-last}
use Rattle.coverage.proofs.Entries.{entries-written}
use Rattle.coverage.proofs.Kept.{in_kept, kept_in, open-accesses}

-- what stands earlier is smaller
abbrev Rising : List ℕ → Type 0
Rising l = (x y : ℕ) → Earlier x y l → x < y

-- A rising list is told by its members.
rising-same : (l k : List ℕ) → Rising l → Rising k → ((x : ℕ) → (x ∈ l) ↔ (x ∈ k)) → l ≡ k
rising-same [] [] r s f = refl
rising-same [] (y ∷ ys) r s f = absurd (Memᴰ.not-nil ((f y).1 (Memᴰ.head refl)))
rising-same (x ∷ xs) [] r s f = absurd (Memᴰ.not-nil ((f x).0 (Memᴰ.head refl)))
rising-same (x ∷ xs) (y ∷ ys) r s f = go (first ((f x).0 (Memᴰ.head refl)) ((f y).1 (Memᴰ.head refl))) (rising-same xs ys (λ a b e. r a b (there e)) (λ a b e. s a b (there e)))
  where
    first : x ∈ y ∷ ys → y ∈ x ∷ xs → x ≡ y
    first (Memᴰ.head e) n = e
    first (Memᴰ.tail m) (Memᴰ.head e) = sym e
    first (Memᴰ.tail m) (Memᴰ.tail n) = absurd (omega (arith, s y x (here refl m), r x y (here refl n)))

    later : {z a b : ℕ} {l k : List ℕ} → Rising (a ∷ l) → a ≡ b → z ∈ l → z ∈ b ∷ k → z ∈ k
    later {z} {a} q e m (Memᴰ.head g) = absurd (omega (arith, q a z (here refl m)))
    later q e m (Memᴰ.tail n) = n

    go : x ≡ y → (((z : ℕ) → (z ∈ xs) ↔ (z ∈ ys)) → xs ≡ ys) → x ∷ xs ≡ y ∷ ys
    go e g = rw (e, g (λ z. (λ m. later r e m ((f z).0 (Memᴰ.tail m)), λ m. later s (sym e) m ((f z).1 (Memᴰ.tail m))))) refl

-- A list without one of its members
without : {x : ℕ} (k : List ℕ) → x ∈ k → List ℕ
without [] m = elim m [ ]
without (y ∷ ys) (Memᴰ.head e) = ys
without (y ∷ ys) (Memᴰ.tail m) = y ∷ without ys m

without-length : {x : ℕ} (k : List ℕ) (m : x ∈ k) → suc (length (without k m)) ≡ length k
unfolding without
without-length [] m = elim m [ ]
without-length (y ∷ ys) (Memᴰ.head e) = refl
without-length (y ∷ ys) (Memᴰ.tail m) = ap suc (without-length ys m)

without_in : {x z : ℕ} (k : List ℕ) (m : x ∈ k) → z ∈ k → z ≢ x → z ∈ without k m
unfolding without
without_in {z = z} [] m _ n = elim m [ ]
without_in (y ∷ ys) (Memᴰ.head e) (Memᴰ.head g) n = absurd (n (g ∙ sym e))
without_in (y ∷ ys) (Memᴰ.head e) (Memᴰ.tail h) n = h
without_in (y ∷ ys) (Memᴰ.tail m) (Memᴰ.head g) n = Memᴰ.head g
without_in (y ∷ ys) (Memᴰ.tail m) (Memᴰ.tail h) n = Memᴰ.tail (without_in ys m h n)

-- Distinct members of a list are at most as many as it has.
fewer : (l k : List ℕ) → Distinct l → ((x : ℕ) → x ∈ l → x ∈ k) → length l ≤ length k
fewer [] k d f = omega arith
fewer (x ∷ xs) k d f =
    let m = f x (Memᴰ.head refl) in
    let h = fewer xs (without k m) d.1 (λ z n. without_in k m (f z (Memᴰ.tail n)) (λ e. d.0 (Memᴰ.cast (sym e) n))) in
    omega (arith, without-length k m)

module _ (t : Setting) (w : Laws t) (b : ℕ) where
  -- each entry is in the kept records
  entry_kept : (event last : ℕ) → Listed event last (entries t b) → Contains t (kept t b) event last
  unfolding entries last_kept
  entry_kept event last m =
      let r = in_map (λ (i : ℕ). (t.ev i, i)) _ m in
      let e : event ≡ t.ev r.0 = ap (λ (p : ℕ × ℕ). p.0) r.2 in
      let i : last ≡ r.0 = ap (λ (p : ℕ × ℕ). p.1) r.2 in
      let k = in-upto (suc b) (last_kept t b) r.1 in
      let h : T (leads t b event) = rw e (both (leads t b (t.ev r.0)) _ k.1).0 in
      record {
        of_event = rw i (sym e);
        kept_last = rw i (kept_in t b r.0 (omega (arith, k.0)) (rw e at h));
        records = λ x n. let q = in-records t event (suc last) n in kept_in t b x (omega (arith, k.0, q.0)) (rw q.1 h);
      }

  kept-rising : Rising (kept t b)
  unfolding kept
  kept-rising = upto-rising (suc b) (λ i. leads t b (t.ev i))

  module _ (in-trace : b < t.size) (π : List ℕ) (A : Arrangement t π) where
    -- what is run in trace order, event action by event action, is so record by record
    rising : InTraceOrder t π → Rising π
    rising f x y e = go (decide_eq (t.ev x) (t.ev y))
      where
        back : t.ev x ≡ t.ev y → (y ≡ x) ⊎ (y ≢ x) → y ≤ x → ⊥
        back q (inl i) l = not_back A.distinct e (subst (λ (z : ℕ). Earlier z x π) (sym i) (subst (λ (z : ℕ). Earlier x z π) i e))
        back q (inr n) l = not_back A.distinct e (A.ordered y x (A.inside y (earlier-right e)) (le-before t y x (omega arith) (subst (λ (u : ℕ). T (t.le u (t.ev x))) q (w.le_refl (t.ev x)))) (earlier-left e))

        go : (t.ev x ≡ t.ev y) ⊎ (t.ev x ≢ t.ev y) → x < y
        go (inr n) = f x y n e
        go (inl q) = let g : y ≤ x → ⊥ = back q (decide_eq y x) in omega (arith, g)

    -- where b is the last record and no event action is run that isn't kept, no record is
    none_more : Last b π → ((u : ℕ) → Runs t π u → Runs t (kept t b) u) → (x : ℕ) → x ∈ π → x ∈ kept t b
    none_more l f x m = go (f (t.ev x) (x, m, refl)) (decide_eq (t.ev x) (t.ev b))
      where
        go : Runs t (kept t b) (t.ev x) → (t.ev x ≡ t.ev b) ⊎ (t.ev x ≢ t.ev b) → x ∈ kept t b
        go (y, n, q) (inr d) =
            let h : T (leads t b (t.ev x)) = subst (λ (u : ℕ). T (leads t b u)) q (in_kept t b n).1 in
            kept_in t b x (omega (arith, leads-ahead t w b x in-trace (A.inside x m) d h)) h
        go (y, n, q) (inl e) =
            let h : T (leads t b (t.ev x)) = subst (λ (u : ℕ). T (leads t b u)) q (in_kept t b n).1 in
            let g : b < x → ⊥ = λ k. not_last A.distinct (A.ordered b x in-trace (le-before t b x k (subst (λ (u : ℕ). T (t.le u (t.ev x))) e (w.le_refl (t.ev x)))) m) l in
            kept_in t b x (omega (arith, g)) h

-- "For every open race, show that each arrangement running the second access without the first contains all event actions of the one given."
pub shortest : (t : Setting) → Laws t → (a b : ℕ) → Race t a b → Open t a b → Shortest t a b (entries t b)
shortest t w a b r o =
    let e = entries-written t w b r.inside in
    let g = open-accesses t w a b r o in
    record {
      given = rw e g;
      ordered = rw e (λ x y n. kept-rising t w b x y);
      contains = λ π (A, m, n) event last l.
          let k = entry_kept t w b event last l in
          let f = minimal t w π A b m in
          record { of_event = k.of_event; kept_last = f last k.kept_last; records = λ x h. f x (k.records x h) };
      only = λ π (A, m, n) f q. rw e (rising-same π (kept t b) (rising t w b r.inside π A q) (kept-rising t w b) (λ x. (none_more t w b r.inside π A (accesses-last t a b r π (A, m, n)) (λ u h. rw e at ((f u).0 h)) x, minimal t w π A b m x)));
      fewest = λ π (A, m, n). rw e (fewer (kept t b) π g.0.distinct (minimal t w π A b m));
    }

-- Two wrong statements, refuted by the arrangement given: it lacks a, which stands before b, and holds nothing after b.
module _ (t : Setting) (w : Laws t) (a b : ℕ) (r : Race t a b) (o : Open t a b) where
  pub not-all-before : ((π : List ℕ) → Accesses t a b π → (x : ℕ) → x < b → x ∈ π) → ⊥
  not-all-before f = let g = open-accesses t w a b r o in g.2 (f (kept t b) g a r.first)

  pub not-one-later : ((π : List ℕ) → Accesses t a b π → suc b ∈ π) → ⊥
  not-one-later f = let k = (in_kept t b (f (kept t b) (open-accesses t w a b r o))).0 in omega arith
