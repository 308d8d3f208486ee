-- Direct order links between event actions, and happens-before over them. Event actions are numbered from 0 in order of begin.
-- Which records make a link is said elsewhere: all here holds for any links. Definitions alone. Assumes nothing.
use Rattle.std.specs.Prelude.{ℕ, zero, suc, ◌<◌, ◌≡◌, Bool, false, ◌||◌, eqb}
use mathlib.Core.List.{List, [], ◌∷◌, Memᴰ}

infix 4 ◌∈◌ ◌⊢◌≼◌
abbrev pub ◌∈◌ : ℕ → List ℕ → Type 0
p ∈ ps = Memᴰ p ps

-- the direct predecessors of each event action
pub record Links : Type 0 where
  pub preds : ℕ → List ℕ

-- a direct predecessor begins earlier
abbrev pub Forward : Links → Type 0
Forward l = (u p : ℕ) → p ∈ l.preds u → p < u

-- "t happens before u (t ≼ u) when t = u or a path of forks (from starter to started) and joins (from waited-for to waiting) leads from
-- t to u."
pub data ◌⊢◌≼◌ (l : Links) (t : ℕ) : ℕ → Type 0 where
  same : {u : ℕ} → t ≡ u → l ⊢ t ≼ u
  step : {p u : ℕ} → l ⊢ t ≼ p → p ∈ l.preds u → l ⊢ t ≼ u

-- A value for each event action, made from those of its direct predecessors: `f u r` asks `r` for them. Where links go forward the calls
-- go at most u deep, so a depth of u + 1 is enough and `d`, the value past it, is never asked for.
module _ {A : Type 0} (d : A) (f : ℕ → (ℕ → A) → A) where
  unfoldable pub within : ℕ → ℕ → A
  within zero u = d
  within (suc k) u = f u (within k)

  unfoldable pub along : ℕ → A
  along u = within (suc u) u

-- does an element pass?
unfoldable pub some : (ℕ → Bool) → List ℕ → Bool
some q [] = false
some q (p ∷ ps) = q p || some q ps

-- the test for t ≼ u
unfoldable pub leq : Links → ℕ → ℕ → Bool
leq l t u = along false (λ v r. eqb t v || some r (l.preds v)) u
