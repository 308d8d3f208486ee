-- The entries of a list, marked group by group. Assumes nothing.
use Prim.Native.Nat.{ℕ, zero, suc, ◌+◌, ◌*◌, ◌-◌, ◌≤◌, ◌<◌}
use mathlib.Core.Path.{◌≡◌, refl, sym, ap, ◌∙◌}
use mathlib.Core.List.{List, [], ◌∷◌, ◌++◌}
use mathlib.Core.Logic.{◌≢◌}
use native.Mathlib.Omega.{arith}
use native.Mathlib.Numerals.{add-one}
use lib.ListN.{length, get_or, set, drop, length-set}
use lib.Seq.{sets, sets-eq, get_or-set_other}
use Rattle.records.specs.declared.Record.{Record}
use Rattle.records.specs.Records.{at}
use Rattle.races.specs.Lists.{shape_of, mark_of, entry, numbers}
use Rattle.races.specs.loops.ListPass.{raw, raws}
use Rattle.races.specs.loops.Marking.{first, second, mark_to, Remarked}
use Rattle.races.proofs.EntryStores.{raws-length}
use Rattle.races.proofs.DemandLaws.{numbers-length}

-- Entries without marks, and with the marks of those below some place.
module _ (tr : List Record) where
  abbrev pub nth : List (ℕ × ℕ) → ℕ → ℕ × ℕ
  nth ps i = get_or ps i (0, 0)

  five : (i j : ℕ) → 5 * suc i + j ≡ suc (suc (suc (suc (suc (5 * i + j)))))
  five i j = omega arith

  pub raws-first : (ps : List (ℕ × ℕ)) (rest : List ℕ) (i : ℕ) → i < length ps → first (raws tr ps ++ rest) i ≡ (nth ps i).0 + 1
  unfolding raws raw
  raws-first [] rest i h = absurd (omega arith)
  raws-first ((a, b) ∷ ps) rest zero h = refl
  raws-first ((a, b) ∷ ps) rest (suc i) h = let e : 5 * suc i ≡ suc (suc (suc (suc (suc (5 * i))))) = omega arith in rw e (raws-first ps rest i (omega arith))

  pub raws-second : (ps : List (ℕ × ℕ)) (rest : List ℕ) (i : ℕ) → i < length ps → second (raws tr ps ++ rest) i ≡ (nth ps i).1 + 1
  unfolding raws raw
  raws-second [] rest i h = absurd (omega arith)
  raws-second ((a, b) ∷ ps) rest zero h = refl
  raws-second ((a, b) ∷ ps) rest (suc i) h = rw (five i 1) (raws-second ps rest i (omega arith))

  partly : ℕ → List (ℕ × ℕ) → List ℕ
  partly zero ps = raws tr ps
  partly (suc x) [] = []
  partly (suc x) ((a, b) ∷ ps) = entry tr a b ++ partly x ps

  partly-all : (ps : List (ℕ × ℕ)) → partly (length ps) ps ≡ numbers tr ps
  unfolding partly numbers raws
  partly-all [] = refl
  partly-all ((a, b) ∷ ps) = ap (λ (l : List ℕ). entry tr a b ++ l) (partly-all ps)

  partly_more : (x : ℕ) (ps : List (ℕ × ℕ)) (rest : List ℕ) → x < length ps → set (partly x ps ++ rest) (5 * x + 4) (mark_of tr (nth ps x).0 (nth ps x).1) ≡ partly (suc x) ps ++ rest
  unfolding partly raws raw entry
  partly_more x [] rest h = absurd (omega arith)
  partly_more zero ((a, b) ∷ ps) rest h = refl
  partly_more (suc x) ((a, b) ∷ ps) rest h = rw (five x 4) (ap (λ (l : List ℕ). (a + 1) ∷ (b + 1) ∷ (at tr b).second ∷ shape_of tr a b ∷ mark_of tr a b ∷ l) (partly_more x ps rest (omega arith)))

  marked-partly : (ps : List (ℕ × ℕ)) (rest : List ℕ) (i : ℕ) → i ≤ length ps → mark_to tr i (raws tr ps ++ rest) ≡ partly i ps ++ rest
  unfolding mark_to partly
  marked-partly ps rest zero h = refl
  marked-partly ps rest (suc i) h =
      let p : first (raws tr ps ++ rest) i - 1 ≡ (nth ps i).0 = omega (arith, raws-first ps rest i (omega arith)) in
      let q : second (raws tr ps ++ rest) i - 1 ≡ (nth ps i).1 = omega (arith, raws-second ps rest i (omega arith)) in
      rw (p, q, marked-partly ps rest i (omega arith)) (partly_more i ps rest (omega arith))

  -- so all of them
  pub marked_all : (ps : List (ℕ × ℕ)) (list : List ℕ) → 5 * length ps ≤ length list → mark_to tr (length ps) (sets list 0 (raws tr ps)) ≡ sets list 0 (numbers tr ps)
  marked_all ps list h =
      let r = raws-length tr ps in
      let n = numbers-length tr ps in
      let q : 0 + length (raws tr ps) ≤ length list = omega arith in
      let u : 0 + length (numbers tr ps) ≤ length list = omega arith in
      let e : 0 + length (numbers tr ps) ≡ 0 + length (raws tr ps) = omega arith in
      ap (mark_to tr (length ps)) (sets-eq (raws tr ps) list 0 q)
      ∙ (marked-partly ps (drop (0 + length (raws tr ps)) list) (length ps) (omega arith)
      ∙ (ap (λ (l : List ℕ). l ++ drop (0 + length (raws tr ps)) list) (partly-all ps)
      ∙ sym (sets-eq (numbers tr ps) list 0 u ∙ ap (λ (x : ℕ). numbers tr ps ++ drop x list) e)))

  -- Marks stand where no first or second does.
  pub marked_other : (i p : ℕ) (list : List ℕ) → ((x : ℕ) → p ≢ 5 * x + 4) → get_or (mark_to tr i list) p 0 ≡ get_or list p 0
  unfolding mark_to
  marked_other zero p list n = refl
  marked_other (suc i) p list n = get_or-set_other (mark_to tr i list) (5 * i + 4) p _ 0 (n i) ∙ marked_other i p list n

  apart-first : (x y : ℕ) → 5 * x ≢ 5 * y + 4
  apart-first x y e = omega arith

  apart-second : (x y : ℕ) → 5 * x + 1 ≢ 5 * y + 4
  apart-second x y e = omega arith

  pub remarked-none : (k : ℕ) (list : List ℕ) → Remarked tr k k list list
  remarked-none k list = record { size = refl; firsts = λ x. refl; seconds = λ x. refl; marks = λ raw e. e }

  pub remarked-on : {i j k : ℕ} {l l' l'' : List ℕ} → Remarked tr i j l l' → Remarked tr j k l' l'' → Remarked tr i k l l''
  remarked-on p q = record { size = q.size ∙ p.size; firsts = λ x. q.firsts x ∙ p.firsts x; seconds = λ x. q.seconds x ∙ p.seconds x; marks = λ raw e. q.marks raw (p.marks raw e) }

  pub remarked-one : (i : ℕ) (list list' : List ℕ) → list' ≡ set list (5 * i + 4) (mark_of tr (first list i - 1) (second list i - 1)) → Remarked tr i (i + 1) list list'
  unfolding mark_to
  remarked-one i list list' e = record {
    size = ap length e ∙ length-set list (5 * i + 4) _;
    firsts = λ x. ap (λ (l : List ℕ). get_or l (5 * x) 0) e ∙ get_or-set_other list (5 * i + 4) (5 * x) _ 0 (apart-first x i);
    seconds = λ x. ap (λ (l : List ℕ). get_or l (5 * x + 1) 0) e ∙ get_or-set_other list (5 * i + 4) (5 * x + 1) _ 0 (apart-second x i);
    marks = λ raw p.
        let f : first list i ≡ first raw i = ap (λ (l : List ℕ). get_or l (5 * i) 0) p ∙ marked_other i (5 * i) raw (apart-first i) in
        let s : second list i ≡ second raw i = ap (λ (l : List ℕ). get_or l (5 * i + 1) 0) p ∙ marked_other i (5 * i + 1) raw (apart-second i) in
        e ∙ rw (add-one i, f, s, p) refl;
  }
