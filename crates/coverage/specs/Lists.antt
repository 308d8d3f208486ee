-- The two lists, as pairs (first, second). Assumes nothing.
use Rattle.std.specs.Prelude.{ℕ, ◌+◌, ◌-◌, ◌*◌, ◌≤◌, ◌<◌, ◌&&◌, List, eqb, length}
use Rattle.coverage.specs.Below.{upto, pairs}
use Rattle.coverage.specs.Setting.{Setting}
use Rattle.coverage.specs.Race.{raceb}
use Rattle.coverage.specs.Neighbours.{Cells, writes, reads, neighbour}

-- "The list of all races", "ordered by second record, then first"
unfoldable pub all_races : Setting → List (ℕ × ℕ)
all_races t = pairs t.size (raceb t)

-- "Short list, per cell: each write with the next write; the last write before each read with that read; each read with the next write; only those
-- that are races", in the same order
unfoldable pub short_list : Setting → Cells → List (ℕ × ℕ)
short_list t s = pairs t.size (λ a b. neighbour s a b && raceb t a b)

-- of one cell: its writes, its reads, and its entries in the short list
module _ (t : Setting) (s : Cells) (c : ℕ) where
  abbrev pub cell_writes : List ℕ
  cell_writes = upto t.size (λ i. writes s i && eqb (s.cell i) c)

  abbrev pub cell_reads : List ℕ
  cell_reads = upto t.size (λ i. reads s i && eqb (s.cell i) c)

  abbrev pub cell_entries : List (ℕ × ℕ)
  cell_entries = pairs t.size (λ a b. (neighbour s a b && raceb t a b) && eqb (s.cell b) c)

-- "With p writes (at least 1) and q reads there are at most p − 1 + 2q entries."
abbrev pub ShortBound : Setting → Cells → Type 0
ShortBound t s = (c : ℕ) → 0 < length (cell_writes t s c) → length (cell_entries t s c) ≤ length (cell_writes t s c) - 1 + 2 * length (cell_reads t s c)
