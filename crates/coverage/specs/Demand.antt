-- The third demand, over any setting. Assumes nothing.
use Rattle.std.specs.Prelude.{ℕ, ◌≡◌, ◌↔◌, true, false}
use Rattle.coverage.specs.Below.{Listed}
use Rattle.coverage.specs.Setting.{Setting}
use Rattle.coverage.specs.Race.{Race}
use Rattle.coverage.specs.Cover.{Covered, Open}
use Rattle.coverage.specs.Arrangement.{Accesses, Accessible}
use Rattle.coverage.specs.Leading.{coveredb, kept, entries, written}
use Rattle.coverage.specs.Neighbours.{Cells}
use Rattle.coverage.specs.Lists.{short_list}

module _ (t : Setting) where
  -- what is asked of a race (a, b)
  pub record OpenExactly (a b : ℕ) : Type 0 where
    -- "call the pair open exactly when the event actions can be arranged, each whole but the last, keeping happens-before and the order of all
    -- other races as document 01 defines, so that b is run and a is not"
    pub arranged : (coveredb t a b ≡ false) ↔ Accessible t a b
    -- "This is so exactly when no sequence of races covers the pair."
    pub uncovered : (coveredb t a b ≡ false) ↔ Open t a b
    -- "The pair question gives such an arrangement, the one that document 01 picks"
    pub given : coveredb t a b ≡ false → Accesses t a b (kept t b)
    pub spelled : written t (entries t b) ≡ kept t b
    -- "or else a sequence of races that covers the pair"
    pub covered : coveredb t a b ≡ true → Covered t a b

  -- "For every cell, the short list names it as open exactly when some race on that cell, listed there or not, is open."
  abbrev pub OpenCells : Cells → Type 0
  OpenCells s = (c : ℕ) → ((a b : ℕ) × Listed a b (short_list t s) × (s.cell b ≡ c) × (coveredb t a b ≡ false)) ↔
      ((a b : ℕ) × Race t a b × (s.cell b ≡ c) × Open t a b)
