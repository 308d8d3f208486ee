-- Arrangements (reorderings of a part of the trace). Assumes nothing.
use Rattle.std.specs.Prelude.{ℕ, ◌<◌, ◌≡◌, ◌⊎◌, List, [], ◌∷◌, ◌++◌, T, eqb}
use Rattle.coverage.specs.Below.{◌∈◌, ◌∉◌, upto}
use Rattle.coverage.specs.Setting.{Setting}
use Rattle.coverage.specs.Race.{before, Race}

-- a stands in the list, and b stands after it
pub data Earlier (a b : ℕ) : List ℕ → Type 0 where
  here : {x : ℕ} {xs : List ℕ} → a ≡ x → b ∈ xs → Earlier a b (x ∷ xs)
  there : {x : ℕ} {xs : List ℕ} → Earlier a b xs → Earlier a b (x ∷ xs)

-- b is the last element of the list
pub data Last (b : ℕ) : List ℕ → Type 0 where
  final : {x : ℕ} → b ≡ x → Last b (x ∷ [])
  later : {x : ℕ} {xs : List ℕ} → Last b xs → Last b (x ∷ xs)

abbrev pub Distinct : List ℕ → Type 0
Distinct [] = Unit {0}
Distinct (x ∷ xs) = (x ∉ xs) × Distinct xs

module _ (t : Setting) where
  -- the records of event action u, joins included, that stand before place m, in trace order
  unfoldable pub records_of : ℕ → ℕ → List ℕ
  records_of u m = upto m (λ i. eqb (t.ev i) u)

  -- whole event actions, one after the other
  abbrev pub blocks : List ℕ → List ℕ
  blocks [] = []
  blocks (u ∷ us) = records_of u t.size ++ blocks us

  -- "Each event action's records, its joins included, stand together in trace order, whole but for the last, which may be cut."
  pub record Grouped (π : List ℕ) : Type 0 where
    pub events : List ℕ
    pub end : ℕ
    pub cut : ℕ
    pub events_distinct : Distinct events
    pub end_new : end ∉ events
    pub together : π ≡ blocks events ++ records_of end cut

  -- "An arrangement is a sequence of distinct records of the trace."
  pub record Arrangement (π : List ℕ) : Type 0 where
    pub inside : (x : ℕ) → x ∈ π → x < t.size
    pub distinct : Distinct π
    pub grouped : Grouped π
    -- "If a ≼ b and b is in it, a is in it earlier."
    pub ordered : (a b : ℕ) → a < t.size → T (before t a b) → b ∈ π → Earlier a b π
    -- "If (a, b) is a race and b is in it, then a is in it earlier, or a is absent and b is its last record."
    pub raced : (a b : ℕ) → Race t a b → b ∈ π → Earlier a b π ⊎ ((a ∉ π) × Last b π)

  -- an arrangement in which "b is run and a is not"
  abbrev pub Accesses : ℕ → ℕ → List ℕ → Type 0
  Accesses a b π = Arrangement π × (b ∈ π) × (a ∉ π)

  -- the source: "A race R = (a, b) in a trace π is accessible, if there exists a trace π' .. such that b ∈ π', but a ∉ π'."
  abbrev pub Accessible : ℕ → ℕ → Type 0
  Accessible a b = (π : List ℕ) × Accesses a b π
