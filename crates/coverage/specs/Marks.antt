-- The marks of a cell, and a slim trace that keeps the last accesses too. Assumes nothing.
use Rattle.std.specs.Prelude.{ℕ, ◌+◌, ◌<◌, ◌≡◌, ◌⊎◌, ◌↔◌, Bool, true, cond, not, ◌&&◌, T, eqb}
use Rattle.coverage.specs.Below.{some}
use Rattle.coverage.specs.Setting.{Setting}
use Rattle.coverage.specs.Race.{Race, raceb}
use Rattle.coverage.specs.Cover.{Open}
use Rattle.coverage.specs.Leading.{coveredb}
use Rattle.coverage.specs.Neighbours.{Cells, writes, reads, Neighbours, neighbour}
use Rattle.coverage.specs.Embedding.{Twin, Thinning}

module _ (t : Setting) (s : Cells) where
  -- "an open short-list pair" of the cell c: neighbours, "only those that are races", open
  pub record OpenPair (c a b : ℕ) : Type 0 where
    pub neighbours : Neighbours s a b
    pub race : Race t a b
    pub on : s.cell b ≡ c
    pub uncovered : Open t a b

  -- "cells with an open short-list pair"
  abbrev pub HasOpen : ℕ → Type 0
  HasOpen c = (a b : ℕ) × OpenPair c a b

  -- "`same`, all these pairs are write-write with equal tags"
  abbrev pub Same : (ℕ → ℕ) → ℕ → Type 0
  Same tag c = (a b : ℕ) → OpenPair c a b → T (writes s a) × T (writes s b) × (tag a ≡ tag b)

  -- "`local`, each read of the cell in the trace, if any, follows a write of the cell in its own event action"
  abbrev pub Local : ℕ → Type 0
  Local c = (i : ℕ) → i < t.size → s.cell i ≡ c → T (reads s i) → (j : ℕ) × (j < i) × (t.ev j ≡ t.ev i) × (s.cell j ≡ c) × T (writes s j)

  -- "Two marks follow .., for cells with an open short-list pair"
  abbrev pub MarkedSame : (ℕ → ℕ) → ℕ → Type 0
  MarkedSame tag c = HasOpen c × Same tag c

  abbrev pub MarkedLocal : ℕ → Type 0
  MarkedLocal c = HasOpen c × Local c

  -- the same, computed: is there an open short-list pair of the cell c that passes the test?
  unfoldable pub some_open : ℕ → (ℕ → ℕ → Bool) → Bool
  some_open c p = some t.size (λ b. some b (λ a. ((neighbour s a b && raceb t a b) && eqb (s.cell b) c) && (not (coveredb t a b) && p a b)))

  unfoldable pub equal_writes : (ℕ → ℕ) → ℕ → ℕ → Bool
  equal_writes tag a b = writes s a && (writes s b && eqb (tag a) (tag b))

  unfoldable pub sameb : (ℕ → ℕ) → ℕ → Bool
  sameb tag c = not (some_open c (λ a b. not (equal_writes tag a b)))

  -- a write of the cell of i, in the event action of i, stands before i
  unfoldable pub follows_write : ℕ → Bool
  follows_write i = some i (λ j. (eqb (t.ev j) (t.ev i) && eqb (s.cell j) (s.cell i)) && writes s j)

  unfoldable pub localb : ℕ → Bool
  localb c = not (some t.size (λ i. (eqb (s.cell i) c && reads s i) && not (follows_write i)))

  -- both marks as a number, `same` 1 and `local` 2; 0 for a cell with no open short-list pair
  unfoldable pub marks_of : (ℕ → ℕ) → ℕ → ℕ
  marks_of tag c = cond (some_open c (λ a b. true)) (cond (sameb tag c) 1 0 + cond (localb c) 2 0) 0

  -- what the number says
  pub record Marks (tag : ℕ → ℕ) (c n : ℕ) : Type 0 where
    pub is_same : ((n ≡ 1) ⊎ (n ≡ 3)) ↔ MarkedSame tag c
    pub is_local : ((n ≡ 2) ⊎ (n ≡ 3)) ↔ MarkedLocal c
    pub no_more : n < 4

-- "In edition 2 the compactor also keeps the last read and the last write per event action and cell": what is dropped has a kept twin after it too,
-- and a kept record has the same tag
pub record Narrowing (t : Setting) (s : Cells) (tag : ℕ → ℕ) (t' : Setting) (s' : Cells) (tag' : ℕ → ℕ) (keep : ℕ → Bool) (old : ℕ → ℕ) : Type 0 where
  pub thinning : Thinning t s t' s' keep old
  pub later : (i : ℕ) → i < t.size → (T (keep i) → ⊥) → (j : ℕ) × (j < t.size) × T (keep j) × Twin t s j i
  pub same_tag : (i : ℕ) → i < t'.size → tag' i ≡ tag (old i)

-- "so that the slim trace gives each cell the same marks"
pub record SameMarks (t : Setting) (s : Cells) (tag : ℕ → ℕ) (t' : Setting) (s' : Cells) (tag' : ℕ → ℕ) : Type 0 where
  pub marked_same : (c : ℕ) → MarkedSame t s tag c ↔ MarkedSame t' s' tag' c
  pub marked_local : (c : ℕ) → MarkedLocal t s c ↔ MarkedLocal t' s' c

-- "keeps, per event action and cell, only the first read and the first write" (and, in edition 2, the last): what is dropped isn't the first; nor the last
abbrev pub KeepsFirst : Setting → Cells → (ℕ → Bool) → Type 0
KeepsFirst t s keep = (i : ℕ) → i < t.size → (T (keep i) → ⊥) → (j : ℕ) × Twin t s i j

abbrev pub KeepsLast : Setting → Cells → (ℕ → Bool) → Type 0
KeepsLast t s keep = (i : ℕ) → i < t.size → (T (keep i) → ⊥) → (j : ℕ) × (j < t.size) × Twin t s j i
