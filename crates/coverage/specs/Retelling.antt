-- The shortest retelling of an open race, over any setting. Assumes nothing.
use Rattle.std.specs.Prelude.{ℕ, suc, ◌≤◌, ◌<◌, ◌≡◌, ◌≢◌, ◌↔◌, List, length}
use Rattle.coverage.specs.Below.{◌∈◌, Listed}
use Rattle.coverage.specs.Setting.{Setting}
use Rattle.coverage.specs.Arrangement.{Earlier, records_of, Accesses}
use Rattle.coverage.specs.Leading.{written}

module _ (t : Setting) where
  -- an entry (event, last record kept) is in π: that record is, and all "its event's records, joins included, up to that one"
  pub record Contains (π : List ℕ) (event last : ℕ) : Type 0 where
    pub of_event : t.ev last ≡ event
    pub kept_last : last ∈ π
    pub records : (x : ℕ) → x ∈ records_of t event (suc last) → x ∈ π

  -- event action u is run: a record of it is in π
  abbrev pub Runs : List ℕ → ℕ → Type 0
  Runs π u = (x : ℕ) × (x ∈ π) × (t.ev x ≡ u)

  -- "in trace order": of two event actions, the one that runs first stands first in the trace
  abbrev pub InTraceOrder : List ℕ → Type 0
  InTraceOrder π = (x y : ℕ) → t.ev x ≢ t.ev y → Earlier x y π → x < y

  -- "Instructors put the arrangement on the board and want as little of it as can be.": of a race (a, b), the arrangement for which the entries stand
  pub record Shortest (a b : ℕ) (entries : List (ℕ × ℕ)) : Type 0 where
    pub given : Accesses t a b (written t entries)
    pub ordered : InTraceOrder (written t entries)
    -- "each arrangement running the second access without the first contains all event actions of the one given"
    pub contains : (π : List ℕ) → Accesses t a b π → (event last : ℕ) → Listed event last entries → Contains π event last
    -- it is the only one of these with that set of event actions in trace order
    pub only : (π : List ℕ) → Accesses t a b π → ((u : ℕ) → Runs π u ↔ Runs (written t entries) u) → InTraceOrder π → π ≡ written t entries
    -- and none has fewer records
    pub fewest : (π : List ℕ) → Accesses t a b π → length (written t entries) ≤ length π
