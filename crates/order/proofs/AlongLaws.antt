-- The recursion along the links: where they go forward its depth is enough. Assumes nothing.
use Prim.Native.Nat.{ℕ, zero, suc, ◌<◌}
use mathlib.Core.Path.{◌≡◌}
use native.Mathlib.Omega.{arith}
use Rattle.order.specs.Links.{Links, Forward, ◌∈◌, within, along}

-- `f` asks for the values of direct predecessors alone
abbrev pub Local : {A : Type 0} → Links → (ℕ → (ℕ → A) → A) → Type 0
Local {A} l f = (u : ℕ) (r s : ℕ → A) → ((p : ℕ) → p ∈ l.preds u → r p ≡ s p) → f u r ≡ f u s

module _ {A : Type 0} (l : Links) (fw : Forward l) (d : A) (f : ℕ → (ℕ → A) → A) (local : Local l f) where
  depth : (j k u : ℕ) → u < j → u < k → within d f j u ≡ within d f k u
  unfolding within
  depth zero k u g h = absurd (omega arith)
  depth (suc j) zero u g h = absurd (omega arith)
  depth (suc j) (suc k) u g h = local u (within d f j) (within d f k) (λ p m. depth j k p (omega (arith, fw u p m)) (omega (arith, fw u p m)))

  pub along-law : (u : ℕ) → along d f u ≡ f u (along d f)
  unfolding along within
  along-law u = local u (within d f u) (along d f) (λ p m. depth u (suc p) p (fw u p m) (omega arith))
