-- A slim trace in a full one: which records it keeps, under which numbers, and what it may drop. Assumes nothing.
use Rattle.std.specs.Prelude.{ℕ, ◌<◌, ◌≡◌, ◌↔◌, Bool, T}
use Rattle.coverage.specs.Setting.{Setting}
use Rattle.coverage.specs.Race.{Race}
use Rattle.coverage.specs.Cover.{Open}
use Rattle.coverage.specs.Neighbours.{Cells, conflicts}

-- "keeps, per event action and cell, only the first read and the first write": j is an access before the access i, of the same event action, cell
-- and kind. The source: "if an event action contains multiple reads or multiple writes of one variable, it is enough to store the first read and the
-- first write."
pub record Twin (t : Setting) (s : Cells) (i j : ℕ) : Type 0 where
  pub earlier : j < i
  pub same_event : t.ev j ≡ t.ev i
  pub access : T (s.is_access i)
  pub access_twin : T (s.is_access j)
  pub same_cell : s.cell j ≡ s.cell i
  pub same_kind : s.is_write j ≡ s.is_write i

-- t' with the cells s' is what is kept of t with the cells s: "a kept record being the same access under its new number", its number in t being
-- `old` of that
pub record Thinning (t : Setting) (s : Cells) (t' : Setting) (s' : Cells) (keep : ℕ → Bool) (old : ℕ → ℕ) : Type 0 where
  -- "same cell, at least one write", in both
  pub means : (a b : ℕ) → t.conf a b ≡ conflicts s a b
  pub means' : (a b : ℕ) → t'.conf a b ≡ conflicts s' a b
  -- the kept records, in the same order
  pub inside : (i : ℕ) → i < t'.size → old i < t.size
  pub increasing : (i j : ℕ) → i < j → j < t'.size → old i < old j
  pub kept : (i : ℕ) → i < t'.size → T (keep (old i))
  pub each : (i : ℕ) → i < t.size → T (keep i) → (i' : ℕ) × (i' < t'.size) × (old i' ≡ i)
  -- "a kept record being the same access"
  pub same_event : (i : ℕ) → i < t'.size → t'.ev i ≡ t.ev (old i)
  pub same_access : (i : ℕ) → i < t'.size → s'.is_access i ≡ s.is_access (old i)
  pub same_cell : (i : ℕ) → i < t'.size → s'.cell i ≡ s.cell (old i)
  pub same_kind : (i : ℕ) → i < t'.size → s'.is_write i ≡ s.is_write (old i)
  -- "Only forks and joins order", and these are kept with "every other record"
  pub same-order : (u v : ℕ) → t'.le u v ≡ t.le u v
  -- what is dropped has a kept twin
  pub twin : (i : ℕ) → i < t.size → (T (keep i) → ⊥) → (j : ℕ) × T (keep j) × Twin t s i j

-- "cells with an open race"
abbrev pub OpenOn : Setting → Cells → ℕ → Type 0
OpenOn t s c = (a b : ℕ) × Race t a b × (s.cell b ≡ c) × Open t a b

-- "The slim trace has the same cells with an open race"
abbrev pub SameCells : Setting → Cells → Setting → Cells → Type 0
SameCells t s t' s' = (c : ℕ) → OpenOn t s c ↔ OpenOn t' s' c

-- "combinations of first event action and second access among its open races"
abbrev pub Combination : Setting → ℕ → ℕ → Type 0
Combination t u b = (a : ℕ) × (t.ev a ≡ u) × Race t a b × Open t a b

-- "and the same combinations .., a kept record being the same access under its new number."
abbrev pub SameCombinations : Setting → Setting → (ℕ → ℕ) → Type 0
SameCombinations t t' old = (u b : ℕ) → Combination t u b ↔ ((b' : ℕ) × (old b' ≡ b) × Combination t' u b')
