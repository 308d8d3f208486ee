-- The kept records are whole event actions, then ev(b) up to b; and writing out the entries gives them.
use Prim.Native.Nat.{ℕ, zero, suc, ◌≤◌, ◌<◌}
use mathlib.Core.Path.{◌≡◌, refl, sym, ap, ◌∙◌}
use mathlib.Core.Logic.{◌≢◌, ◌⊎◌, inl, inr}
use mathlib.Core.Bool.{Bool, true, false, not, ◌&&◌, ◌||◌}
use mathlib.Core.List.Memᴰ
use mathlib.Core.List.{List, [], ◌∷◌, ◌++◌, map, append_assoc, append-nil}
use native.Mathlib.Omega.{arith}
use lib.Dec.{T, eqb, eqb→eq, eqb_refl, T_not, not_T}
use Rattle.coverage.specs.Below.{◌∈◌, upto}
use Rattle.coverage.specs.Setting.{Setting, Laws}
use Rattle.coverage.specs.Arrangement.{records_of, blocks, Grouped}
use Rattle.coverage.specs.Leading.{leads, kept, last_kept, entries, written}
use Rattle.slices.proofs.Tests.{both, and, or_left, decide, decide_eq, eq→eqb}
use Rattle.coverage.proofs.Lists.{in_map, map-distinct, in-upto, upto_zero, upto-yes, upto-no, upto-empty, upto-same, upto-ext, upto-distinct}
use Rattle.coverage.proofs.Order.{after}
use Rattle.coverage.proofs.Leads.{leads-self}

-- a list, where a test passes
keep : Bool → List ℕ → List ℕ
keep true l = l
keep false l = []

keep-yes : (b : Bool) (l : List ℕ) → T b → keep b l ≡ l
unfolding keep
keep-yes true l h = refl
keep-yes false l h = absurd h

keep-no : (b : Bool) (l : List ℕ) → (T b → ⊥) → keep b l ≡ []
unfolding keep
keep-no true l h = absurd (h tt)
keep-no false l h = refl

keep-nil : (b : Bool) → keep b [] ≡ []
unfolding keep
keep-nil true = refl
keep-nil false = refl

module _ (t : Setting) where
  abbrev entry : ℕ → ℕ × ℕ
  entry i = (t.ev i, i)

  written-snoc : (l : List ℕ) (i : ℕ) → written t (map entry (l ++ (i ∷ []))) ≡ written t (map entry l) ++ records_of t (t.ev i) (suc i)
  written-snoc [] i = append-nil (records_of t (t.ev i) (suc i))
  written-snoc (j ∷ l) i = rw (written-snoc l i, append_assoc) refl

  records-snoc : (u m : ℕ) → t.ev m ≡ u → records_of t u (suc m) ≡ records_of t u m ++ (m ∷ [])
  unfolding records_of
  records-snoc u m e = upto-yes m (λ i. eqb (t.ev i) u) (eq→eqb _ _ e)

  records-zero : (u : ℕ) → records_of t u 0 ≡ []
  unfolding records_of
  records-zero u = upto_zero (λ i. eqb (t.ev i) u)

  -- a record and the next one, of another event action
  record Ends (i : ℕ) : Type 0 where
    next : suc i < t.size
    other : t.ev (suc i) ≢ t.ev i

module _ (t : Setting) (w : Laws t) where
  ends_last : (i j : ℕ) → Ends t i → j < t.size → t.ev i ≡ t.ev j → j ≤ i
  ends_last i j n l e = omega (arith, after t w j i (suc i) l e (omega arith) (λ f. n.other (sym f)))

  -- an event action that ends is whole; the next one has no records before its first
  whole : (i : ℕ) → Ends t i → records_of t (t.ev i) (suc i) ≡ records_of t (t.ev i) t.size
  unfolding records_of
  whole i n = upto-same (suc i) t.size (λ j. eqb (t.ev j) (t.ev i)) (omega (arith, n.next)) (λ j l h. omega (arith, ends_last i j n l (sym (eqb→eq _ _ h))))

  fresh : (i : ℕ) → Ends t i → records_of t (t.ev (suc i)) (suc i) ≡ []
  unfolding records_of
  fresh i n = upto-empty (suc i) (λ j. eqb (t.ev j) (t.ev (suc i))) (λ j l h. go j l (eqb→eq _ _ h) (decide_eq j i))
    where
      go : (j : ℕ) → j < suc i → t.ev j ≡ t.ev (suc i) → (j ≡ i) ⊎ (j ≢ i) → ⊥
      go j l e (inl f) = n.other (sym e ∙ ap t.ev f)
      go j l e (inr f) = omega (arith, after t w (suc i) j i n.next e (omega arith) (λ g. n.other (sym e ∙ g)))

  written-blocks : (l : List ℕ) → ((i : ℕ) → i ∈ l → Ends t i) → written t (map (entry t) l) ≡ blocks t (map t.ev l)
  written-blocks [] h = refl
  written-blocks (i ∷ l) h = rw (whole i (h i (Memᴰ.head refl)), written-blocks l (λ j m. h j (Memᴰ.tail m))) refl

  module _ (p : ℕ → Bool) where
    abbrev ends : ℕ → Bool
    ends i = p (t.ev i) && not (eqb (t.ev (suc i)) (t.ev i))

    abbrev passes : ℕ → Bool
    passes i = p (t.ev i)

    ends_of : (i m : ℕ) → m < t.size → i ∈ upto m ends → (i < m) × Ends t i
    ends_of i m l h =
        let r = in-upto m ends h in
        let q = both (p (t.ev i)) (not (eqb (t.ev (suc i)) (t.ev i))) r.1 in
        (r.0, record { next = omega (arith, r.0); other = λ e. T_not (eqb (t.ev (suc i)) (t.ev i)) q.1 (eq→eqb _ _ e) })

    abbrev ended : ℕ → List ℕ
    ended m = written t (map (entry t) (upto m ends))

    abbrev begun : ℕ → List ℕ
    begun m = keep (p (t.ev m)) (records_of t (t.ev m) m)

    more : (m : ℕ) → upto m passes ≡ ended m ++ begun m → T (p (t.ev m)) → upto (suc m) passes ≡ ended m ++ records_of t (t.ev m) (suc m)
    more m f h = rw (upto-yes m passes h, f, keep-yes (p (t.ev m)) (records_of t (t.ev m) m) h, append_assoc, records-snoc t (t.ev m) m refl) refl

    -- what passes below m: the event actions that end below m, and the first records of that of m
    parts : (m : ℕ) → m < t.size → upto m passes ≡ ended m ++ begun m
    parts zero l = rw (upto_zero passes, upto_zero ends, records-zero t (t.ev 0), keep-nil (p (t.ev 0))) refl
    parts (suc m) l = go (decide (p (t.ev m))) (decide_eq (t.ev (suc m)) (t.ev m)) (parts m (omega arith))
      where
        go : T (p (t.ev m)) ⊎ (T (p (t.ev m)) → ⊥) → (t.ev (suc m) ≡ t.ev m) ⊎ (t.ev (suc m) ≢ t.ev m) → upto m passes ≡ ended m ++ begun m → upto (suc m) passes ≡ ended (suc m) ++ begun (suc m)
        go (inl h) (inl e) f = rw (more m f h, upto-no m ends (λ q. T_not (eqb (t.ev (suc m)) (t.ev m)) (both (p (t.ev m)) (not (eqb (t.ev (suc m)) (t.ev m))) q).1 (eq→eqb _ _ e)), e, keep-yes (p (t.ev m)) (records_of t (t.ev m) (suc m)) h) refl
        go (inl h) (inr n) f = rw (more m f h, upto-yes m ends (and (p (t.ev m)) _ h (not_T (eqb (t.ev (suc m)) (t.ev m)) (λ q. n (eqb→eq _ _ q)))), written-snoc t (upto m ends) m, fresh m (record { next = l; other = n }), keep-nil (p (t.ev (suc m))), append-nil (ended m ++ records_of t (t.ev m) (suc m))) refl
        go (inr k) (inl e) f = rw (upto-no m passes k, f, upto-no m ends (λ q. k (both (p (t.ev m)) (not (eqb (t.ev (suc m)) (t.ev m))) q).0), e, keep-no (p (t.ev m)) (records_of t (t.ev m) m) k, keep-no (p (t.ev m)) (records_of t (t.ev m) (suc m)) k) refl
        go (inr k) (inr n) f = rw (upto-no m passes k, f, upto-no m ends (λ q. k (both (p (t.ev m)) (not (eqb (t.ev (suc m)) (t.ev m))) q).0), keep-no (p (t.ev m)) (records_of t (t.ev m) m) k, fresh m (record { next = l; other = n }), keep-nil (p (t.ev (suc m)))) refl

module _ (t : Setting) (w : Laws t) (b : ℕ) (in-trace : b < t.size) where
  abbrev finished : List ℕ
  finished = upto b (ends t w (leads t b))

  kept-parts : kept t b ≡ written t (map (entry t) finished) ++ records_of t (t.ev b) (suc b)
  unfolding kept
  kept-parts = more t w (leads t b) b (parts t w (leads t b) b in-trace) (leads-self t w b)

  ends_at : (i : ℕ) → i ∈ finished → (i < b) × Ends t i
  ends_at i = ends_of t w (leads t b) i b in-trace

  pub kept-grouped : Grouped t (kept t b)
  kept-grouped = record {
    events = map t.ev finished;
    end = t.ev b;
    cut = suc b;
    events_distinct = map-distinct t.ev finished apart (upto-distinct b (ends t w (leads t b)));
    end_new = λ m. let r = in_map t.ev finished m in let e = ends_at r.0 r.1 in absurd (omega (arith, e.0, ends_last t w r.0 b e.1 in-trace (sym r.2)));
    together = kept-parts ∙ ap (λ (l : List ℕ). l ++ records_of t (t.ev b) (suc b)) (written-blocks t w finished (λ i m. (ends_at i m).1));
  }
    where
      apart : (i j : ℕ) → i ∈ finished → j ∈ finished → t.ev i ≡ t.ev j → i ≡ j
      apart i j m n e =
          let f = ends_at i m in
          let g = ends_at j n in
          omega (arith, ends_last t w i j f.1 (omega (arith, g.0)) e, ends_last t w j i g.1 (omega (arith, f.0)) (sym e))

  -- the last records kept: those of the event actions that end, and b
  lasts : upto (suc b) (last_kept t b) ≡ finished ++ (b ∷ [])
  unfolding last_kept
  lasts = upto-yes b (last_kept t b) (and (leads t b (t.ev b)) _ (leads-self t w b) (or_left (eqb b b) _ (eqb_refl b))) ∙ ap (λ (l : List ℕ). l ++ (b ∷ [])) (upto-ext b (last_kept t b) (ends t w (leads t b)) other)
    where
      off : (x y : Bool) → (T x → ⊥) → (x || y) ≡ y
      off true y h = absurd (h tt)
      off false y h = refl

      other : (i : ℕ) → i < b → last_kept t b i ≡ ends t w (leads t b) i
      other i l = ap (λ (x : Bool). leads t b (t.ev i) && x) (off (eqb i b) (not (eqb (t.ev (suc i)) (t.ev i))) (λ h. let e = eqb→eq i b h in omega arith))

  -- Writing out the entries gives the kept records.
  pub entries-written : written t (entries t b) ≡ kept t b
  unfolding entries
  entries-written = rw (lasts, written-snoc t finished b) (sym kept-parts)
