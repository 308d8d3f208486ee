-- What leads to an event action as a whole: the sets of which a cover clock's row is made. Assumes nothing.
use Rattle.std.specs.Prelude.{ℕ, zero, suc, ◌≤◌, ◌<◌, ◌≡◌, ◌⊎◌, Bool, not, ◌&&◌, ◌||◌, List, [], ◌∷◌, T, ltb}
use Rattle.coverage.specs.Below.{some}
use Rattle.coverage.specs.Setting.{Setting}
use Rattle.coverage.specs.Race.{Race, raceb}
use Rattle.coverage.specs.Neighbours.{Cells}
use Rattle.coverage.specs.Leading.{coveredb}

module _ (t : Setting) where
  -- races (c1, d1) .. (cn, dn) lead from v to a record of u: v ≼ ev(c1), each ev(di) ≼ ev(c(i+1)), and ev(dn) ≼ u
  pub data RacesTo (u : ℕ) : ℕ → List (ℕ × ℕ) → Type 0 where
    last : {v c d : ℕ} → T (t.le v (t.ev c)) → Race t c d → T (t.le (t.ev d) u) → RacesTo u v ((c, d) ∷ [])
    next : {v c d : ℕ} {cs : List (ℕ × ℕ)} → T (t.le v (t.ev c)) → Race t c d → RacesTo u (t.ev d) cs → RacesTo u v ((c, d) ∷ cs)

  -- v leads to u as a whole: v ≼ u, or races lead from v to some record of u; by the first race
  pub data Whole (u : ℕ) : ℕ → Type 0 where
    below : {v : ℕ} → T (t.le v u) → Whole u v
    by_race : {v c d : ℕ} → T (t.le v (t.ev c)) → Race t c d → Whole u (t.ev d) → Whole u v

  -- the same, computed: by at most k races; by any number
  unfoldable pub whole_by : ℕ → ℕ → ℕ → Bool
  whole_by u zero v = t.le v u
  whole_by u (suc k) v = t.le v u || some t.size (λ c. some t.size (λ d. let rest = whole_by u k (t.ev d) in (raceb t c d && t.le v (t.ev c)) && rest))

  unfoldable pub whole : ℕ → ℕ → Bool
  whole u v = whole_by u t.size v

  -- Edges: races such that, wherever a race is the last on a way from v, one of them is, no later (or v ≼ is enough)
  pub record Edges (E : ℕ → ℕ → Type 0) : Type 0 where
    pub race : {c d : ℕ} → E c d → Race t c d
    pub ends : {v c d : ℕ} → Race t c d → Whole (t.ev c) v → T (t.le v (t.ev d)) ⊎
        ((p q : ℕ) × E p q × (q ≤ d) × T (t.le (t.ev q) (t.ev d)) × Whole (t.ev p) v)

  -- Direct links: ≼ is made of them, and none goes back
  pub record Direct (Link : ℕ → ℕ → Type 0) : Type 0 where
    pub sound : {v u : ℕ} → Link v u → T (t.le v u)
    pub final : (v u : ℕ) → T (t.le v u) → (v ≡ u) ⊎ ((p : ℕ) × T (t.le v p) × Link p u)
    pub strict : {v u : ℕ} → Link v u → T (t.le u v) → ⊥

  -- v is in u itself, in a direct predecessor's set, or in the set of the first of an edge into u whose second stands before n
  abbrev pub Into : (ℕ → ℕ → Type 0) → (ℕ → ℕ → Type 0) → ℕ → ℕ → ℕ → Type 0
  Into Link E n u v = (v ≡ u) ⊎ ((p : ℕ) × Link p u × Whole p v) ⊎ ((c d : ℕ) × E c d × (t.ev d ≡ u) × (d < n) × Whole (t.ev c) v)

-- What marking takes of a list, given as a test: of each second the open entries, the last first, down to the first whose first access writes.
unfoldable pub taken : Setting → Cells → (ℕ → ℕ → Bool) → ℕ → ℕ → Bool
taken t s e c d = e c d && (not (coveredb t c d) && not (some d (λ x. ltb c x && (e x d && s.is_write x))))
