-- What leads to b: the event actions, the records, and the entries that the answer for an open pair keeps. Assumes nothing.
use Rattle.std.specs.Prelude.{ℕ, zero, suc, ◌⊎◌, Bool, false, not, ◌&&◌, ◌||◌, List, [], ◌∷◌, ◌++◌, map, T, eqb}
use Rattle.coverage.specs.Below.{some, upto}
use Rattle.coverage.specs.Setting.{Setting}
use Rattle.coverage.specs.Race.{before, raceb}
use Rattle.coverage.specs.Cover.{CoversFrom}
use Rattle.coverage.specs.Arrangement.{records_of}

module _ (t : Setting) where
  -- "each other event action t from which happens-before and races lead to b: t ≼ ev(b), or some races meet the conditions of cover with t for
  -- ev(a)"
  abbrev pub Leads : ℕ → ℕ → Type 0
  Leads b u = T (t.le u (t.ev b)) ⊎ ((cs : List (ℕ × ℕ)) × CoversFrom t b u cs)

  -- the same, computed: `reach b k u` says that at most k races do
  unfoldable pub reach : ℕ → ℕ → ℕ → Bool
  reach b zero u = false
  reach b (suc k) u = some t.size (λ c. some t.size (λ d. let rest = reach b k (t.ev d) in (raceb t c d && t.le u (t.ev c)) && (before t d b || rest)))

  unfoldable pub leads : ℕ → ℕ → Bool
  leads b u = t.le u (t.ev b) || reach b t.size u

  -- the mark of a race: covered, or else open
  abbrev pub coveredb : ℕ → ℕ → Bool
  coveredb a b = leads b (t.ev a)

  -- "For an open pair the answer keeps ev(b) up to b, and the whole of each other event action t from which happens-before and races lead to b":
  -- all of these stand before b
  unfoldable pub kept : ℕ → List ℕ
  kept b = upto (suc b) (λ i. leads b (t.ev i))

  -- is i the last record kept of its event action: b itself, or one that a record of another event action follows?
  unfoldable pub last_kept : ℕ → ℕ → Bool
  last_kept b i = leads b (t.ev i) && (eqb i b || not (eqb (t.ev (suc i)) (t.ev i)))

  -- "in trace order, as entries (event, last record kept)"
  unfoldable pub entries : ℕ → List (ℕ × ℕ)
  entries b = map (λ i. (t.ev i, i)) (upto (suc b) (last_kept b))

  -- "each standing for its event's records, joins included, up to that one"
  abbrev pub written : List (ℕ × ℕ) → List ℕ
  written [] = []
  written ((u, i) ∷ es) = records_of t u (suc i) ++ written es
