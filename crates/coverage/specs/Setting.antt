-- The setting of races and cover: records, their event actions, conflicts, and any order of the event actions that has four laws. Assumes nothing.
use Rattle.std.specs.Prelude.{ℕ, ◌<◌, ◌≡◌, ◌≢◌, Bool, T}

-- The records (the source's operations) are 0 .. size - 1, in trace order; a record's number in document 01 is one more.
pub record Setting : Type 0 where
  pub size : ℕ
  -- "ev is the event action of a record"
  pub ev : ℕ → ℕ
  -- "same cell, at least one write"
  pub conf : ℕ → ℕ → Bool
  -- "t happens before u (t ≼ u)"
  pub le : ℕ → ℕ → Bool

pub record Laws (t : Setting) : Type 0 where
  -- "t ≼ u when t = u or a path .. leads from t to u"
  pub le_refl : (u : ℕ) → T (t.le u u)
  pub le_trans : (u v w : ℕ) → T (t.le u v) → T (t.le v w) → T (t.le u w)
  -- happens-before goes forward in the trace, where there is no "fork whose second has begun already" and no "join whose second has not ended"
  pub forward : (i j : ℕ) → i < t.size → j < t.size → T (t.le (t.ev i) (t.ev j)) → t.ev i ≢ t.ev j → i < j
  -- "An event action is joins (perhaps none), begin, then forks, reads and writes, then end. Its joins stand directly before its begin.": its
  -- records stand together
  pub contiguous : (i j k : ℕ) → i < j → j < k → k < t.size → t.ev i ≡ t.ev k → t.ev j ≡ t.ev i
