-- Covered races, and open ones (the source: uncovered). Assumes nothing.
use Rattle.std.specs.Prelude.{ℕ, Bool, false, ◌&&◌, List, [], ◌∷◌, T}
use Rattle.coverage.specs.Setting.{Setting}
use Rattle.coverage.specs.Race.{before, Race, raceb}

module _ (t : Setting) where
  -- "A race is covered by races (c1, d1) .. (cn, dn), n at least 1, when ev(a) ≼ ev(c1), each ev(di) ≼ ev(c(i+1)), and dn ≼ b": with u for ev(a)
  pub data CoversFrom (b : ℕ) : ℕ → List (ℕ × ℕ) → Type 0 where
    one : {u c d : ℕ} → T (t.le u (t.ev c)) → Race t c d → T (before t d b) → CoversFrom b u ((c, d) ∷ [])
    more : {u c d : ℕ} {cs : List (ℕ × ℕ)} → T (t.le u (t.ev c)) → Race t c d → CoversFrom b (t.ev d) cs → CoversFrom b u ((c, d) ∷ cs)

  abbrev pub Covers : List (ℕ × ℕ) → ℕ → ℕ → Type 0
  Covers cs a b = CoversFrom b (t.ev a) cs

  abbrev pub Covered : ℕ → ℕ → Type 0
  Covered a b = (cs : List (ℕ × ℕ)) × Covers cs a b

  -- "Open means that no such sequence exists."
  abbrev pub Open : ℕ → ℕ → Type 0
  Open a b = (cs : List (ℕ × ℕ)) → Covers cs a b → ⊥

  -- the same, computed
  unfoldable pub covers_fromb : ℕ → ℕ → List (ℕ × ℕ) → Bool
  covers_fromb b u [] = false
  covers_fromb b u ((c, d) ∷ []) = (t.le u (t.ev c) && raceb t c d) && before t d b
  covers_fromb b u ((c, d) ∷ (e ∷ cs)) = (t.le u (t.ev c) && raceb t c d) && covers_fromb b (t.ev d) (e ∷ cs)

  abbrev pub coversb : List (ℕ × ℕ) → ℕ → ℕ → Bool
  coversb cs a b = covers_fromb b (t.ev a) cs
