-- The order of records, and races. Assumes nothing.
use Rattle.std.specs.Prelude.{ℕ, ◌<◌, Bool, not, cond, ◌&&◌, T, ltb, eqb}
use Rattle.coverage.specs.Setting.{Setting}

module _ (t : Setting) where
  -- "For records a ≼ b: in different event actions as those are ordered; in one, when a stands earlier. So a ≼ a is false for records."
  unfoldable pub before : ℕ → ℕ → Bool
  before a b = cond (eqb (t.ev a) (t.ev b)) (ltb a b) (t.le (t.ev a) (t.ev b))

  -- "A race (a, b): a before b in the trace, same cell, at least one write, not a ≼ b."
  pub record Race (a b : ℕ) : Type 0 where
    pub first : a < b
    pub inside : b < t.size
    pub conflict : T (t.conf a b)
    pub unordered : T (before a b) → ⊥

  -- the same, computed
  unfoldable pub raceb : ℕ → ℕ → Bool
  raceb a b = ltb a b && (ltb b t.size && (t.conf a b && not (before a b)))
