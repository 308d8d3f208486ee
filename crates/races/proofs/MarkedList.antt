-- What stands in a list whose first entries are marked.
-- Assumes nothing.
use Prim.Native.Nat.{ℕ, zero, suc, ◌+◌, ◌*◌, ◌-◌, ◌≤◌, ◌<◌}
use mathlib.Core.Path.{◌≡◌, refl, sym, ap, ap₂, ◌∙◌}
use mathlib.Core.Logic.{◌≢◌, ◌⊎◌, inl, inr}
use mathlib.Core.Bool.{Bool, true, false, cond}
use mathlib.Core.List.{List, [], ◌∷◌, ◌++◌}
use native.Mathlib.Omega.{arith}
use lib.Dec.{T}
use lib.ListN.{length, get_or, set, drop, length-append, length-set}
use lib.Seq.{sets, sets-eq, get_or-set_same, get_or-set_other, drop_at}
use Rattle.records.specs.declared.Record.{Record}
use Rattle.records.specs.Records.{at, is_write}
use Rattle.coverage.specs.Leading.{coveredb}
use Rattle.slices.proofs.Tests.{decide_eq, passed}
use Rattle.races.specs.Traces.{setting_of}
use Rattle.races.specs.Lists.{pairs_of, shape_of, mark_of, numbers}
use Rattle.races.specs.loops.ListPass.{listed_below, raw, raws, WritesAll}
use Rattle.races.specs.loops.Marking.{first, second, mark_to, Remarked}
use Rattle.races.specs.loops.Raising.{Unmarked, MarksList}
use Rattle.races.proofs.ListLaws.{pairs_below}
use Rattle.races.proofs.EntryStores.{raws-length}
use Rattle.races.proofs.DemandLaws.{numbers-length}
use Rattle.races.proofs.MarkingLaws.{raws-first, raws-second, marked_other, marked_all, remarked-none}
use Rattle.races.proofs.EntryOrder.{first_at, second_of_entry}

module _ (tr : List Record) where
  five : (i : ℕ) → 5 * suc i + 3 ≡ suc (suc (suc (suc (suc (5 * i + 3)))))
  five i = omega arith

  raws-shape : (ps : List (ℕ × ℕ)) (rest : List ℕ) (i : ℕ) → i < length ps → get_or (raws tr ps ++ rest) (5 * i + 3) 0 ≡ shape_of tr (get_or ps i (0, 0)).0 (get_or ps i (0, 0)).1
  unfolding raws raw
  raws-shape [] rest i h = absurd (omega arith)
  raws-shape ((a, b) ∷ ps) rest zero h = refl
  raws-shape ((a, b) ∷ ps) rest (suc i) h = rw (five i) (raws-shape ps rest i (omega arith))

  marked-length : (i : ℕ) (list : List ℕ) → length (mark_to tr i list) ≡ length list
  unfolding mark_to
  marked-length zero list = refl
  marked-length (suc i) list = length-set (mark_to tr i list) (5 * i + 4) _ ∙ marked-length i list

  marked-own : (i k : ℕ) (list : List ℕ) → i < k → 5 * k ≤ length list → get_or (mark_to tr k list) (5 * i + 4) 0 ≡ mark_of tr (first list i - 1) (second list i - 1)
  unfolding mark_to
  marked-own i zero list h r = absurd (omega arith)
  marked-own i (suc k) list h r = go (decide_eq i k) (λ l. marked-own i k list l (omega arith))
    where
      value : ℕ
      value = mark_of tr (first list k - 1) (second list k - 1)

      go : (i ≡ k) ⊎ (i ≢ k) → (i < k → get_or (mark_to tr k list) (5 * i + 4) 0 ≡ mark_of tr (first list i - 1) (second list i - 1)) → get_or (set (mark_to tr k list) (5 * k + 4) value) (5 * i + 4) 0 ≡ mark_of tr (first list i - 1) (second list i - 1)
      go (inl e) f = rw e (get_or-set_same (mark_to tr k list) (5 * k + 4) value 0 (omega (arith, marked-length k list)))
      go (inr n) f = get_or-set_other (mark_to tr k list) (5 * k + 4) (5 * i + 4) value 0 (λ z. n (omega arith)) ∙ f (omega arith)

  -- an open entry, and one whose first access writes
  pub mark-of : (a b : ℕ) → mark_of tr a b ≡ cond (coveredb (setting_of tr) a b) 0 1
  unfolding mark_of
  mark-of a b = refl

  pub mark-covered : (a b : ℕ) → mark_of tr a b ≢ 1 → T (coveredb (setting_of tr) a b)
  unfolding mark_of
  mark-covered a b n = go (coveredb (setting_of tr) a b) n
    where
      go : (x : Bool) → ◌≢◌ {A = ℕ} (cond x 0 1) 1 → T x
      go true n = tt
      go false n = absurd (n refl)

  pub mark-open : (a b : ℕ) → mark_of tr a b ≡ 1 → T (coveredb (setting_of tr) a b) → ⊥
  unfolding mark_of
  mark-open a b e h = let z : ◌≡◌ {A = ℕ} 0 1 = sym (ap (λ (x : Bool). cond x 0 1) (passed (coveredb (setting_of tr) a b) h)) ∙ e in omega arith

  pub shape-reads : (a b : ℕ) → shape_of tr a b ≡ 3 → T (is_write (at tr a)) → ⊥
  unfolding shape_of
  shape-reads a b e h = go (is_write (at tr a)) (is_write (at tr b)) e h
    where
      go : (x y : Bool) → ◌≡◌ {A = ℕ} (cond x (cond y 1 2) 3) 3 → T x → ⊥
      go true true e h = omega arith
      go true false e h = omega arith
      go false y e h = h

  pub shape-writes : (a b : ℕ) → shape_of tr a b ≢ 3 → T (is_write (at tr a))
  unfolding shape_of
  shape-writes a b n = go (is_write (at tr a)) n
    where
      go : (x : Bool) → ◌≢◌ {A = ℕ} (cond x (cond (is_write (at tr b)) 1 2) 3) 3 → T x
      go true n = tt
      go false n = absurd (n refl)

module _ {tr : List Record} {list₀ : List ℕ} {count : ℕ} (u : Unmarked tr list₀ count) where
  abbrev rest : List ℕ
  rest = drop (5 * count) list₀

  pub unmarked-room : 5 * count ≤ length list₀
  unmarked-room = omega (arith, ap length u.list_is, length-append (raws tr (pairs_of tr u.short)) rest, raws-length tr (pairs_of tr u.short), u.count-is)

  module _ {list : List ℕ} {k : ℕ} (r : Remarked tr 0 k list₀ list) where
    list_is : list ≡ mark_to tr k list₀
    unfolding mark_to
    list_is = r.marks list₀ refl

    pub list-room : 5 * count ≤ length list
    list-room = omega (arith, r.size, unmarked-room)

    module _ (i : ℕ) (h : i < count) where
      pub first-is : first list i ≡ first_at tr u.short i + 1
      first-is = r.firsts i ∙ ap (λ (l : List ℕ). get_or l (5 * i) 0) u.list_is ∙ raws-first tr (pairs_of tr u.short) rest i (omega (arith, u.count-is))

      pub second_is : second list i ≡ second_of_entry tr u.short i + 1
      second_is = r.seconds i ∙ ap (λ (l : List ℕ). get_or l (5 * i + 1) 0) u.list_is ∙ raws-second tr (pairs_of tr u.short) rest i (omega (arith, u.count-is))

      pub shape_is : get_or list (5 * i + 3) 0 ≡ shape_of tr (first_at tr u.short i) (second_of_entry tr u.short i)
      shape_is = ap (λ (l : List ℕ). get_or l (5 * i + 3) 0) list_is ∙ marked_other tr k (5 * i + 3) list₀ (λ x z. omega arith) ∙ ap (λ (l : List ℕ). get_or l (5 * i + 3) 0) u.list_is ∙ raws-shape tr (pairs_of tr u.short) rest i (omega (arith, u.count-is))

    module _ (i : ℕ) (l : i < k) (h : k ≤ count) where
      pub mark-is : get_or list (5 * i + 4) 0 ≡ mark_of tr (first_at tr u.short i) (second_of_entry tr u.short i)
      mark-is =
          let f : first list₀ i - 1 ≡ first_at tr u.short i = omega (arith, r.firsts i, first-is i (omega arith)) in
          let s : second list₀ i - 1 ≡ second_of_entry tr u.short i = omega (arith, r.seconds i, second_is i (omega arith)) in
          ap (λ (l : List ℕ). get_or l (5 * i + 4) 0) list_is ∙ marked-own tr i k list₀ l (omega (arith, unmarked-room)) ∙ ap₂ (mark_of tr) f s

  -- all of them marked
  pub list-numbers : {list : List ℕ} → Remarked tr 0 count list₀ list → list ≡ numbers tr (pairs_of tr u.short) ++ drop (5 * count) list₀
  list-numbers {list} r =
      let x : 0 + length (raws tr (pairs_of tr u.short)) ≡ 5 * count = omega (arith, l, c) in
      let y : 0 + length (numbers tr (pairs_of tr u.short)) ≡ 5 * count = omega (arith, n, c) in
      let h = unmarked-room in
      list_is r
      ∙ (ap₂ (mark_to tr) c (u.list_is ∙ sym (sets-eq (raws tr ps) list₀ 0 (omega arith) ∙ ap (λ (k : ℕ). raws tr ps ++ drop k list₀) x))
      ∙ (marked_all tr ps list₀ (omega (arith, c))
      ∙ (sets-eq (numbers tr ps) list₀ 0 (omega arith) ∙ ap (λ (k : ℕ). numbers tr ps ++ drop k list₀) y)))
    where
      ps : List (ℕ × ℕ)
      ps = pairs_of tr u.short

      c : count ≡ length (pairs_of tr u.short)
      c = u.count-is

      l : length (raws tr (pairs_of tr u.short)) ≡ 5 * length (pairs_of tr u.short)
      l = raws-length tr (pairs_of tr u.short)

      n : length (numbers tr (pairs_of tr u.short)) ≡ 5 * length (pairs_of tr u.short)
      n = numbers-length tr (pairs_of tr u.short)

pub marks-list : {tr : List Record} {clocks clocks' list list' : List ℕ} {count : ℕ} → clocks' ≡ clocks → Remarked tr 0 count list list' → MarksList tr clocks clocks' list list' count
marks-list e r = record { clocks_stay = e; remarked = r; list_is = λ u. list-numbers u r }

-- there is none
pub marks-none : (tr : List Record) (clocks list : List ℕ) {count : ℕ} → count ≡ 0 → MarksList tr clocks clocks list list count
marks-none tr clocks list z = marks-list refl (rw z (remarked-none tr 0 list))

-- The list as it is written is such a list.
pub written-unmarked : {tr : List Record} {short : Bool} {list list₁ : List ℕ} {found : ℕ} → 5 * length (listed_below tr short (length tr)) ≤ length list → WritesAll true tr short list list₁ found → Unmarked tr list₁ found
written-unmarked {tr} {short} {list} {list₁} {found} room w = record { short = short; count-is = c; list_is = is ∙ ap (λ (xs : List ℕ). raws tr (pairs_of tr short) ++ xs) (sym past) }
  where
    c : found ≡ length (pairs_of tr short)
    c = w.count ∙ ap length (pairs_below tr short)

    n : 0 + length (raws tr (pairs_of tr short)) ≡ 5 * found
    n = omega (arith, raws-length tr (pairs_of tr short), c)

    is : list₁ ≡ raws tr (pairs_of tr short) ++ drop (5 * found) list
    is = w.list_is ∙ ap (λ (ps : List (ℕ × ℕ)). sets list 0 (raws tr ps)) (pairs_below tr short) ∙ sets-eq (raws tr (pairs_of tr short)) list 0 (omega (arith, n, w.count)) ∙ ap (λ (k : ℕ). raws tr (pairs_of tr short) ++ drop k list) n

    past : drop (5 * found) list₁ ≡ drop (5 * found) list
    past = ap (drop (5 * found)) is ∙ drop_at (raws tr (pairs_of tr short)) (drop (5 * found) list) (5 * found) (omega (arith, n))
