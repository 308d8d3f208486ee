-- Cells, conflicts and neighbouring accesses: the pairs of which the short list (the source: candidates) takes the races. Assumes nothing.
use Rattle.std.specs.Prelude.{ℕ, ◌<◌, ◌≡◌, Bool, not, ◌&&◌, ◌||◌, T, ltb, eqb}
use Rattle.coverage.specs.Below.{some}

-- a record's cell (the source: Var); is the record an access, and does it write?
pub record Cells : Type 0 where
  pub cell : ℕ → ℕ
  pub is_access : ℕ → Bool
  pub is_write : ℕ → Bool

module _ (s : Cells) where
  abbrev pub writes : ℕ → Bool
  writes i = s.is_access i && s.is_write i

  abbrev pub reads : ℕ → Bool
  reads i = s.is_access i && not (s.is_write i)

  -- "same cell, at least one write"
  unfoldable pub conflicts : ℕ → ℕ → Bool
  conflicts a b = (s.is_access a && s.is_access b) && (eqb (s.cell a) (s.cell b) && (s.is_write a || s.is_write b))

  -- no write of the cell of b stands between a and b
  abbrev pub NoWrite : ℕ → ℕ → Type 0
  NoWrite a b = (w : ℕ) → a < w → w < b → s.cell w ≡ s.cell b → T (writes w) → ⊥

  -- "Short list, per cell: each write with the next write; the last write before each read with that read; each read with the next write"
  pub data Neighbours (a b : ℕ) : Type 0 where
    write_write : a < b → s.cell a ≡ s.cell b → T (writes a) → T (writes b) → NoWrite a b → Neighbours a b
    write_read : a < b → s.cell a ≡ s.cell b → T (writes a) → T (reads b) → NoWrite a b → Neighbours a b
    read_write : a < b → s.cell a ≡ s.cell b → T (reads a) → T (writes b) → NoWrite a b → Neighbours a b

  -- the same, computed
  unfoldable pub write_between : ℕ → ℕ → Bool
  write_between a b = some b (λ w. ltb a w && (writes w && eqb (s.cell w) (s.cell b)))

  unfoldable pub neighbour : ℕ → ℕ → Bool
  neighbour a b = ltb a b && (conflicts a b && not (write_between a b))
