use Rattle.ranks.specs.declared.Ordering.TheVariants.{Link, Nothing}
use Rattle.ranks.specs.OrderingOf.{link_of}
use native.Mathlib.Omega.{arith}
use mathlib.Core.Logic.{◌⊎◌, inl, inr}
use mathlib.Core.Path.{◌≡◌, refl, sym, ap₂, ◌∙◌}
use Prim.Native.Nat.{ℕ, zero, suc, ◌-◌}
use Rattle.ranks.proofs.link_of.Goals as goal

no_ends : (p u : ℕ) → (p ≡ 0) ⊎ ((p ≡ 0 → ⊥) × (u ≡ 0)) → Nothing ≡ link_of p u
no_ends zero u e = refl
no_ends (suc p) zero e = refl
no_ends (suc p) (suc u) (inl e) = absurd (omega arith)
no_ends (suc p) (suc u) (inr e) = absurd (omega (arith, e.1))

both_ends : (p u : ℕ) → (p ≡ 0 → ⊥) → (u ≡ 0 → ⊥) → Link (p - 1) (u - 1) ≡ link_of p u
both_ends zero u m n = absurd (m refl)
both_ends (suc p) zero m n = absurd (n refl)
both_ends (suc p) (suc u) m n = let e : suc p - 1 ≡ p = omega arith in let f : suc u - 1 ≡ u = omega arith in ap₂ Link e f

pub returns-then-from-eq0 : goal.returns-then-from-eq0
returns-then-from-eq0 c = no_ends _ _ (inl (sym c.rank_of-from.ensures ∙ c.if-from-eq0.true))

pub returns-then-to-eq0 : goal.returns-then-to-eq0
returns-then-to-eq0 c = no_ends _ _ (inr ((λ z. c.if-from-eq0.false (c.rank_of-from.ensures ∙ z)), sym c.rank_of-to.ensures ∙ c.if-to-eq0.true))

pub returns : goal.returns
returns c = rw (← c.rank_of-from.ensures, ← c.rank_of-to.ensures) (both_ends _ _ c.if-from-eq0.false c.if-to-eq0.false)
