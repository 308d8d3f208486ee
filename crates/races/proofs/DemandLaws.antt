-- The entries of a list, read back.
-- Assumes nothing.
use Prim.Native.Nat.{ℕ, zero, suc, ◌+◌, ◌*◌, ◌<◌}
use mathlib.Core.Path.{◌≡◌, refl, sym, ap, ap₂, ◌∙◌, subst}
use mathlib.Core.Bool.{Bool, true, false}
use mathlib.Core.List.Memᴰ
use mathlib.Core.List.{List, [], ◌∷◌, ◌++◌, Memᴰ, append_assoc}
use mathlib.Core.Logic.{◌⊎◌, inl, inr}
use native.Mathlib.Omega.{arith}
use lib.ListN.{length, get_or, length-append, get_or-append}
use lib.Seq.{get_or-append-add}
use Rattle.records.specs.declared.Record.{Record}
use Rattle.records.specs.Records.{at}
use Rattle.coverage.specs.Below.{Listed}
use Rattle.coverage.specs.Leading.{coveredb}
use Rattle.races.specs.Traces.{setting_of}
use Rattle.races.specs.Lists.{mark_of, entry, numbers}
use Rattle.races.specs.Demand.{Calls, Names}

module _ (tr : List Record) where
  entry_length : (a b : ℕ) → length (entry tr a b) ≡ 5
  unfolding entry
  entry_length a b = refl

  pub numbers-length : (ps : List (ℕ × ℕ)) → length (numbers tr ps) ≡ 5 * length ps
  unfolding numbers
  numbers-length [] = refl
  numbers-length ((a, b) ∷ ps) = omega (arith, length-append (entry tr a b) (numbers tr ps), entry_length a b, numbers-length ps)

  -- number j of entry k
  numbers-at : (ps : List (ℕ × ℕ)) (rest : List ℕ) (k j : ℕ) → k < length ps → j < 5
      → get_or (numbers tr ps ++ rest) (5 * k + j) 0 ≡ get_or (entry tr (get_or ps k (0, 0)).0 (get_or ps k (0, 0)).1) j 0
  unfolding numbers
  numbers-at [] rest k j h l = absurd (omega arith)
  numbers-at ((a, b) ∷ ps) rest zero j h l =
      let e : 5 * 0 + j ≡ j = omega arith in
      rw (e, append_assoc) (get_or-append (entry tr a b) (numbers tr ps ++ rest) 0 j (omega (arith, entry_length a b)))
  numbers-at ((a, b) ∷ ps) rest (suc k) j h l =
      let e : 5 * suc k + j ≡ length (entry tr a b) + (5 * k + j) = omega (arith, entry_length a b) in
      rw (e, append_assoc, get_or-append-add (entry tr a b) (numbers tr ps ++ rest) (5 * k + j) 0) (numbers-at ps rest k j (omega arith) l)

  -- the parts of an entry
  entry_first : (a b : ℕ) → get_or (entry tr a b) 0 0 ≡ a + 1
  unfolding entry
  entry_first a b = refl

  entry-second : (a b : ℕ) → get_or (entry tr a b) 1 0 ≡ b + 1
  unfolding entry
  entry-second a b = refl

  entry-cell : (a b : ℕ) → get_or (entry tr a b) 2 0 ≡ (at tr b).second
  unfolding entry
  entry-cell a b = refl

  entry-mark : (a b : ℕ) → get_or (entry tr a b) 4 0 ≡ mark_of tr a b
  unfolding entry
  entry-mark a b = refl

  -- a pair of the list stands at some place of it
  pub place_of : (a b : ℕ) (ps : List (ℕ × ℕ)) → Listed a b ps → (k : ℕ) × (k < length ps) × (get_or ps k (0, 0) ≡ (a, b))
  place_of a b [] m = absurd (Memᴰ.not-nil m)
  place_of a b (p ∷ ps) m = go (Memᴰ.cases_cons m) (place_of a b ps)
    where
      go : ((a, b) ≡ p) ⊎ Listed a b ps → (Listed a b ps → (k : ℕ) × (k < length ps) × (get_or ps k (0, 0) ≡ (a, b))) → (k : ℕ) × (k < suc (length ps)) × (get_or (p ∷ ps) k (0, 0) ≡ (a, b))
      go (inl e) f = (0, omega arith, sym e)
      go (inr n) f = let r = f n in (suc r.0, omega (arith, r.1), r.2)

  pub at_place : (ps : List (ℕ × ℕ)) (k : ℕ) → k < length ps → Listed (get_or ps k (0, 0)).0 (get_or ps k (0, 0)).1 ps
  at_place [] k h = absurd (omega arith)
  at_place (p ∷ ps) zero h = Memᴰ.head refl
  at_place (p ∷ ps) (suc k) h = Memᴰ.tail (at_place ps k (omega arith))

  module _ (ps : List (ℕ × ℕ)) (rest : List ℕ) where
    pub calls-of : (a b : ℕ) → Listed a b ps → Calls (numbers tr ps ++ rest) (length ps) a b (mark_of tr a b)
    calls-of a b m =
        let r = place_of a b ps m in
        record {
          index = r.0;
          inside = r.1;
          first = numbers-at ps rest r.0 0 r.1 (omega arith) ∙ (ap (λ p. get_or (entry tr p.0 p.1) 0 0) r.2 ∙ entry_first a b);
          second = numbers-at ps rest r.0 1 r.1 (omega arith) ∙ (ap (λ p. get_or (entry tr p.0 p.1) 1 0) r.2 ∙ entry-second a b);
          marked = numbers-at ps rest r.0 4 r.1 (omega arith) ∙ (ap (λ p. get_or (entry tr p.0 p.1) 4 0) r.2 ∙ entry-mark a b);
        }

    pub calls-listed : (a b mark : ℕ) → Calls (numbers tr ps ++ rest) (length ps) a b mark → Listed a b ps × (mark ≡ mark_of tr a b)
    calls-listed a b mark c =
        let k = c.index in
        let x = (get_or ps k (0, 0)).0 in
        let y = (get_or ps k (0, 0)).1 in
        let p : x ≡ a = omega (arith, numbers-at ps rest k 0 c.inside (omega arith), entry_first x y, c.first) in
        let q : y ≡ b = omega (arith, numbers-at ps rest k 1 c.inside (omega arith), entry-second x y, c.second) in (
          subst (λ (v : ℕ). Listed v b ps) p (subst (λ (v : ℕ). Listed x v ps) q (at_place ps k c.inside)),
          sym c.marked ∙ (numbers-at ps rest k 4 c.inside (omega arith) ∙ (entry-mark x y ∙ ap₂ (mark_of tr) p q)),
        )

    pub names_of : (a b : ℕ) → Listed a b ps → mark_of tr a b ≡ 1 → Names (numbers tr ps ++ rest) (length ps) (at tr b).second
    names_of a b m e =
        let r = place_of a b ps m in
        record {
          index = r.0;
          inside = r.1;
          of_cell = numbers-at ps rest r.0 2 r.1 (omega arith) ∙ (ap (λ p. get_or (entry tr p.0 p.1) 2 0) r.2 ∙ entry-cell a b);
          open_mark = numbers-at ps rest r.0 4 r.1 (omega arith) ∙ (ap (λ p. get_or (entry tr p.0 p.1) 4 0) r.2 ∙ (entry-mark a b ∙ e));
        }

    pub names-listed : (c : ℕ) → Names (numbers tr ps ++ rest) (length ps) c → (a b : ℕ) × Listed a b ps × ((at tr b).second ≡ c) × (mark_of tr a b ≡ 1)
    names-listed c n =
        let k = n.index in
        let x = (get_or ps k (0, 0)).0 in
        let y = (get_or ps k (0, 0)).1 in
        (x, y, at_place ps k n.inside, sym (entry-cell x y) ∙ (sym (numbers-at ps rest k 2 n.inside (omega arith)) ∙ n.of_cell), sym (entry-mark x y) ∙ (sym (numbers-at ps rest k 4 n.inside (omega arith)) ∙ n.open_mark))

  pub mark-open : (a b : ℕ) → coveredb (setting_of tr) a b ≡ false → mark_of tr a b ≡ 1
  unfolding mark_of
  mark-open a b e = rw e refl

  pub open-marked : (a b : ℕ) → mark_of tr a b ≡ 1 → coveredb (setting_of tr) a b ≡ false
  unfolding mark_of
  open-marked a b e = go (coveredb (setting_of tr) a b) refl
    where
      go : (t : Bool) → coveredb (setting_of tr) a b ≡ t → t ≡ false
      go true q = absurd (omega (arith, rw q at e))
      go false q = refl
