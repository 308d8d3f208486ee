-- How what happens before u is found without clocks: u is marked, and in one pass down the records a link whose later end is marked
-- marks its earlier end. `MarkLaws` proves that this gives happens-before. Definitions alone. Assumes nothing.
use Rattle.std.specs.Prelude.{ℕ, zero, suc, Bool, cond, ◌&&◌, ◌||◌, List, eqb, get_or, set}
use Rattle.slices.specs.Slices.{zeros}
use Rattle.ranks.specs.declared.Ordering.{Ordering}
use Rattle.ranks.specs.declared.Ordering.TheVariants.{Link, Begin, Nothing}

unfoldable pub mark_by : Ordering → (ℕ → Bool) → ℕ → Bool
mark_by (Link p v) m t = m t || (m v && eqb p t)
mark_by (Begin v) m t = m t
mark_by Nothing m t = m t

-- the marks m taken down the first i records
unfoldable pub marks_down : (ℕ → Ordering) → ℕ → (ℕ → Bool) → ℕ → Bool
marks_down op zero m = m
marks_down op (suc i) m = marks_down op i (mark_by (op i) m)

abbrev pub marks : (ℕ → Ordering) → ℕ → ℕ → ℕ → Bool
marks op i u = marks_down op i (eqb u)

-- The same with the marks in a list, 1 for a mark; `marks_in` starts from k entries, of which u's is marked.
abbrev pub marked : List ℕ → ℕ → Bool
marked ms t = eqb (get_or ms t 0) 1

unfoldable pub mark_in : Ordering → List ℕ → List ℕ
mark_in (Link p v) ms = cond (marked ms v) (set ms p 1) ms
mark_in (Begin v) ms = ms
mark_in Nothing ms = ms

unfoldable pub marks_down_in : (ℕ → Ordering) → ℕ → List ℕ → List ℕ
marks_down_in op zero ms = ms
marks_down_in op (suc i) ms = marks_down_in op i (mark_in (op i) ms)

abbrev pub marks_in : (ℕ → Ordering) → ℕ → ℕ → ℕ → List ℕ
marks_in op i u k = marks_down_in op i (set (zeros k) u 1)
