-- Entries in the list space, and how many of them there can be. Assumes nothing.
use Prim.Native.Nat.{ℕ, zero, suc, ◌+◌, ◌*◌, ◌-◌, ◌≤◌, ◌<◌}
use mathlib.Core.Path.{◌≡◌, refl, sym, ap, ap₂, ◌∙◌, subst}
use mathlib.Core.Logic.{◌≢◌, ◌⊎◌, inl, inr}
use mathlib.Core.Bool.{Bool, true, false, not}
use mathlib.Core.List.{List, [], ◌∷◌, ◌++◌, map, append_assoc}
use native.Mathlib.Omega.{arith}
use lib.Dec.{T, eqb, eqb→eq, T_not}
use lib.ListN.{length, get_or, drop, set, length-append, length-drop, length-map}
use lib.Seq.{drop-cons, set_at}
use Rattle.records.specs.declared.Record.{Record}
use Rattle.records.specs.Records.{at, event_of}
use Rattle.trace.specs.Reading.{Acceptable}
use Rattle.trace.proofs.Blocks.{contiguous}
use Rattle.order.specs.Rank.{rank}
use Rattle.coverage.specs.Below.{upto}
use Rattle.coverage.specs.Leading.{leads, last_kept, entries}
use Rattle.slices.proofs.Tests.{both, either, decide, decide_eq, eq→eqb}
use Rattle.coverage.proofs.Lists.{upto_zero, upto-yes, upto-no}
use Rattle.races.specs.Traces.{setting_of}
use Rattle.races.specs.loops.FilledClocks.{rows}
use Rattle.pair.specs.Pair.{flat, with_entries, kept_entry, kept_entries}
use Rattle.pair.specs.loops.PairSearch.{entry_at, kept_below}
use Rattle.pair.proofs.RecordRows.{rank_rises, rank-some, rank-few}

pub flat-length : (es : List (ℕ × ℕ)) → length (flat es) ≡ 2 * length es
flat-length [] = refl
flat-length (e ∷ es) = let h = flat-length es in omega arith

flat-snoc : (es : List (ℕ × ℕ)) (x y : ℕ) → flat (es ++ (x, y) ∷ []) ≡ flat es ++ x ∷ y ∷ []
flat-snoc [] x y = refl
flat-snoc (e ∷ es) x y = ap (λ (l : List ℕ). e.0 ∷ e.1 ∷ l) (flat-snoc es x y)

pub no-entries : (entry : List ℕ) → entry ≡ with_entries [] entry
unfolding with_entries
no-entries entry = refl

pub entries-room : (es : List (ℕ × ℕ)) (entry : List ℕ) → 2 * length es ≤ length entry → length (with_entries es entry) ≡ length entry
unfolding with_entries
entries-room es entry h = simp (length-append, length-drop) (omega (arith, flat-length es))

-- one entry more
pub put-more : (es : List (ℕ × ℕ)) (k x y : ℕ) (entry list : List ℕ) → k ≡ length es → 2 * k + 1 < length entry → list ≡ with_entries es entry → set (set list (2 * k) x) (2 * k + 1) y ≡ with_entries (es ++ (x, y) ∷ []) entry
unfolding with_entries
put-more es k x y entry list e h l =
    let n : length (flat es) ≡ 2 * k = omega (arith, flat-length es) in
    let m : length (flat (es ++ (x, y) ∷ [])) ≡ suc (suc (2 * k)) = ap length (flat-snoc es x y) ∙ length-append (flat es) (x ∷ y ∷ []) ∙ omega arith in
    let d : drop (2 * k) entry ≡ get_or entry (2 * k) 0 ∷ get_or entry (suc (2 * k)) 0 ∷ drop (suc (suc (2 * k))) entry = drop-cons entry (2 * k) 0 (omega arith) ∙ ap (λ (r : List ℕ). get_or entry (2 * k) 0 ∷ r) (drop-cons entry (suc (2 * k)) 0 (omega arith)) in
    let rest = drop (suc (suc (2 * k))) entry in
    let s : set list (2 * k) x ≡ (flat es ++ x ∷ []) ++ get_or entry (suc (2 * k)) 0 ∷ rest =
    ap (λ (r : List ℕ). set r (2 * k) x) (l ∙ ap₂ (λ (p : ℕ) (r : List ℕ). flat es ++ r) n (ap (λ (p : ℕ). drop p entry) n ∙ d))
    ∙ set_at (flat es) (get_or entry (2 * k) 0) (get_or entry (suc (2 * k)) 0 ∷ rest) x (2 * k) n
    ∙ sym (append_assoc (flat es) (x ∷ []) (get_or entry (suc (2 * k)) 0 ∷ rest)) in
    let p : length (flat es ++ x ∷ []) ≡ 2 * k + 1 = length-append (flat es) (x ∷ []) ∙ omega arith in
    ap (λ (r : List ℕ). set r (2 * k + 1) y) s
    ∙ set_at (flat es ++ x ∷ []) (get_or entry (suc (2 * k)) 0) rest y (2 * k + 1) p
    ∙ append_assoc (flat es) (x ∷ []) (y ∷ rest)
    ∙ sym (rw (m, flat-snoc es x y) (append_assoc (flat es) (x ∷ y ∷ []) rest))

-- Each event action has one entry at most.
module _ {tr : List Record} (a : Acceptable tr) where
  abbrev ev : ℕ → ℕ
  ev i = event_of (at tr i)

  module _ (b : ℕ) (inside : b < length tr) where
    abbrev test : ℕ → Bool
    test = last_kept (setting_of tr) b

    -- an event action has one last record kept
    last_apart : (j i : ℕ) → j < i → i ≤ b → T (test j) → ev j ≢ ev i
    unfolding last_kept
    last_apart j i l h t e = go (either (eqb j b) (not (eqb (ev (suc j)) (ev j))) (both (leads (setting_of tr) b (ev j)) _ t).1)
      where
        same : (suc j ≡ i) ⊎ (suc j ≢ i) → ev (suc j) ≡ ev j
        same (inl f) = ap ev f ∙ sym e
        same (inr n) = contiguous a j (suc j) i (omega arith) (omega arith) (omega arith) e

        go : T (eqb j b) ⊎ T (not (eqb (ev (suc j)) (ev j))) → ⊥
        go (inl k) = omega (arith, eqb→eq j b k)
        go (inr k) = T_not (eqb (ev (suc j)) (ev j)) k (eq→eqb _ _ (same (decide_eq (suc j) i)))

    kept-ranks : (i : ℕ) → i ≤ suc b → (r : ℕ) → ((j : ℕ) → j < i → T (test j) → rank tr (ev j) ≤ r) → length (upto i test) ≤ r
    kept-ranks zero h r f = rw (upto_zero test) (omega arith)
    kept-ranks (suc i) h r f = go (decide (test i)) (kept-ranks i (omega arith))
      where
        go : T (test i) ⊎ (T (test i) → ⊥) → ((r : ℕ) → ((j : ℕ) → j < i → T (test j) → rank tr (ev j) ≤ r) → length (upto i test) ≤ r) → length (upto (suc i) test) ≤ r
        go (inl t) g =
            let k = g (rank tr (ev i) - 1) (λ j l u. let z = rank_rises a j i l (omega arith) (last_apart j i l (omega arith) u) in omega arith) in
            let m = f i (omega arith) t in
            let p = rank-some a i (omega arith) in
            rw (upto-yes i test t) (simp length-append (omega arith))
        go (inr n) g = rw (upto-no i test n) (g r (λ j l u. f j (omega arith) u))

    -- so there is room for one more where record i is such a one
    pub kept-room : (i : ℕ) → i ≤ b → T (test i) → length (kept_below tr b i) < rows tr
    unfolding kept_below
    kept-room i h t =
        let k = kept-ranks i (omega arith) (rank tr (ev i) - 1) (λ j l u. let z = rank_rises a j i l (omega arith) (last_apart j i l h u) in omega arith) in
        let p = rank-some a i (omega arith) in
        let q = rank-few a i (omega arith) in
        omega (arith, length-map (upto i test) (entry_at tr))

    pub kept-few : (i : ℕ) → i ≤ suc b → length (kept_below tr b i) ≤ rows tr
    unfolding kept_below
    kept-few i h = omega (arith, length-map (upto i test) (entry_at tr), kept-ranks i h (rows tr) (λ j l u. rank-few a j (omega arith)))

-- The entries of an open pair, record by record.
map_snoc : (f : ℕ → ℕ × ℕ) (l : List ℕ) (x : ℕ) → map f (l ++ x ∷ []) ≡ map f l ++ f x ∷ []
map_snoc f [] x = refl
map_snoc f (y ∷ l) x = ap (λ (r : List (ℕ × ℕ)). f y ∷ r) (map_snoc f l x)

module _ (tr : List Record) (b : ℕ) where
  pub kept-none : kept_below tr b 0 ≡ []
  unfolding kept_below
  kept-none = rw (upto_zero (last_kept (setting_of tr) b))

  pub kept-one : (i : ℕ) → T (last_kept (setting_of tr) b i) → kept_below tr b (suc i) ≡ kept_below tr b i ++ entry_at tr i ∷ []
  unfolding kept_below
  kept-one i h = rw (upto-yes i (last_kept (setting_of tr) b) h) (map_snoc (entry_at tr) (upto i (last_kept (setting_of tr) b)) i)

  pub kept_same : (i : ℕ) → (T (last_kept (setting_of tr) b i) → ⊥) → kept_below tr b (suc i) ≡ kept_below tr b i
  unfolding kept_below
  kept_same i h = rw (upto-no i (last_kept (setting_of tr) b) h)

  twice : (l : List ℕ) → map kept_entry (map (λ i. (event_of (at tr i), i)) l) ≡ map (entry_at tr) l
  twice [] = refl
  twice (x ∷ l) = ap (λ (r : List (ℕ × ℕ)). entry_at tr x ∷ r) (twice l)

  pub kept-all : kept_below tr b (suc b) ≡ kept_entries tr b
  unfolding kept_below kept_entries entries
  kept-all = sym (twice (upto (suc b) (last_kept (setting_of tr) b)))

  pub kept-count : length (kept_entries tr b) ≡ length (entries (setting_of tr) b)
  unfolding kept_entries
  kept-count = length-map (entries (setting_of tr) b) kept_entry

-- Record i passed, as the code passes it.
module _ (tr : List Record) (b i k : ℕ) (list : List ℕ) (counts : k ≡ length (kept_below tr b i)) where
  abbrev Grows : ℕ → List ℕ → Type 0
  Grows k' list' = (k' ≡ length (kept_below tr b (suc i))) × ((entry : List ℕ) → list ≡ with_entries (kept_below tr b i) entry → list' ≡ with_entries (kept_below tr b (suc i)) entry)

  pub kept-stays : last_kept (setting_of tr) b i ≡ false → Grows k list
  kept-stays n = let e = kept_same tr b i (λ h. subst T n h) in (rw e counts, λ entry l. rw e l)

  pub kept-grows : last_kept (setting_of tr) b i ≡ true → 2 * k + 1 < length list → (x y : ℕ) → x ≡ event_of (at tr i) → y ≡ i + 1 → (list' : List ℕ) → list' ≡ set (set list (2 * k) x) (2 * k + 1) y → Grows (k + 1) list'
  unfolding with_entries
  kept-grows h room x y ex ey list' e =
      let g = kept-one tr b i (subst T (sym h) tt) in (
        rw g (simp length-append (omega arith)),
        λ entry l.
            let n : length list ≡ length (flat (kept_below tr b i)) + (length entry - length (flat (kept_below tr b i))) = ap length l ∙ simp (length-append, length-drop) in
            let m : 2 * k + 1 < length entry = omega (arith, flat-length (kept_below tr b i)) in
            e ∙ rw (ex, ey, g) (put-more (kept_below tr b i) k (event_of (at tr i)) (i + 1) entry list counts m l),
      )
