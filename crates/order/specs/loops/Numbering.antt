-- The event actions of a setting, numbered from 0 in order of begin. Definitions alone. Assumes nothing.
use Rattle.std.specs.Prelude.{ℕ, suc, ◌<◌, ◌≤◌, ◌≡◌, Bool, List, T}
use Rattle.coverage.specs.Setting.{Setting}
use Rattle.coverage.specs.Leading.{leads}
use Rattle.coverage.specs.loops.Whole.{whole}
use Rattle.order.specs.Links.{◌∈◌}
use Rattle.order.specs.loops.Sets.{row}

-- `name` of a number is an event action; `place` is a record of it, of the later one a later record
pub record Numbered (t : Setting) (m : ℕ) (name : ℕ → ℕ) : Type 0 where
  pub place : ℕ → ℕ
  pub inside : (r : ℕ) → r < m → place r < t.size
  pub at : (r : ℕ) → r < m → t.ev (place r) ≡ name r
  pub distinct : (r s : ℕ) → r < m → s < m → name r ≡ name s → r ≡ s
  pub rising : (r s : ℕ) → r < s → s < m → place r < place s

-- the members of each chain are ordered
abbrev pub InOrder : Setting → ℕ → (ℕ → ℕ) → (ℕ → ℕ) → Type 0
InOrder t m name ch = (s r : ℕ) → s ≤ r → r < m → ch s ≡ ch r → T (t.le (name s) (name r))

-- the numbers of u's direct predecessors
pub record Preds (name : ℕ → ℕ) (Link : ℕ → ℕ → Type 0) (u : ℕ) (ps : List ℕ) : Type 0 where
  pub earlier : (p : ℕ) → p ∈ ps → p < u
  pub linked : (p : ℕ) → p ∈ ps → Link (name p) (name u)
  pub all : (x : ℕ) → Link x (name u) → (p : ℕ) × (p ∈ ps) × (name p ≡ x)

-- the numbers of the event actions of the firsts of b's edges, b a record of u
pub record Firsts (t : Setting) (name : ℕ → ℕ) (E : ℕ → ℕ → Type 0) (u b : ℕ) (vs : List ℕ) : Type 0 where
  pub earlier : (v : ℕ) → v ∈ vs → v < u
  pub edges : (v : ℕ) → v ∈ vs → (c : ℕ) × E c b × (t.ev c ≡ name v)
  pub all : (c : ℕ) → E c b → (v : ℕ) × (v ∈ vs) × (t.ev c ≡ name v)

module _ (t : Setting) (name : ℕ → ℕ) where
  -- what leads to the event action u as a whole, by number
  abbrev pub whole_of : ℕ → ℕ → Bool
  whole_of u r = whole t (name u) (name r)

  -- what leads to record b
  abbrev pub leads_to : ℕ → ℕ → Bool
  leads_to b r = leads t b (name r)

  -- what happens before the event action u
  abbrev pub up_to : ℕ → ℕ → Bool
  up_to u r = t.le (name r) (name u)

  -- the clock row of u
  abbrev pub clock_row : (ℕ → ℕ) → ℕ → ℕ → ℕ
  clock_row ch u c = row ch (up_to u) (suc u) c

  -- the cover clock's row of u at its end; and at its record b
  abbrev pub cover_row : (ℕ → ℕ) → ℕ → ℕ → ℕ
  cover_row ch u c = row ch (whole_of u) (suc u) c

  abbrev pub cover_row_at : (ℕ → ℕ) → ℕ → ℕ → ℕ → ℕ
  cover_row_at ch b u c = row ch (leads_to b) (suc u) c
