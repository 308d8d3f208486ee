-- "Enough" does not make edges: two records that race, and no listed race, are enough, and yet the first leads to the second's event action.
use Prim.Native.Nat.{ℕ, ◌≤◌}
use mathlib.Core.Path.{◌∙◌}
use mathlib.Core.Logic.{◌⊎◌, inl, inr}
use mathlib.Core.Bool.{true}
use mathlib.Core.List.Memᴰ
use mathlib.Core.List.{[]}
use native.Mathlib.Omega.{arith}
use lib.Dec.{T, eqb, eqb→eq, eqb_refl}
use Rattle.coverage.specs.Below.{Listed}
use Rattle.coverage.specs.Setting.{Setting, Laws}
use Rattle.coverage.specs.Race.{before, Race, raceb}
use Rattle.coverage.specs.loops.Whole.{Whole, Edges}
use Rattle.slices.proofs.Tests.{eq→eqb}
use Rattle.coverage.proofs.Order.{race-of}
use Rattle.coverage.proofs.Whole.{Ends, race-whole, leads-ends, whole-self}
use Rattle.coverage.proofs.Listed.{On, Enough}

abbrev two : Setting
two = record { size = 2; ev = λ i. i; conf = λ i j. true; le = eqb }

two-laws : Laws two
two-laws = record {
  le_refl = eqb_refl;
  le_trans = λ u v w h k. eq→eqb u w (eqb→eq u v h ∙ eqb→eq v w k);
  forward = λ i j _ _ h n. absurd (n (eqb→eq i j h));
  contiguous = λ i j k a b _ e. absurd (omega arith);
}

pub nothing-enough : Enough two []
nothing-enough b u i h n = go ((leads-ends two two-laws b u i).0 h)
  where
    go : Ends two b b u → (c d : ℕ) × Listed c d [] × On two b u c d
    go (inl k) = absurd (n k)
    go (inr (c, d, r, m, g, w)) = absurd (omega (arith, r.first))

the-race : Race two 0 1
unfolding raceb before
the-race = race-of two 0 1 tt

pub first-leads : Whole two 1 0
first-leads = race-whole two two-laws the-race

pub no_edges : Edges two (λ c d. Listed c d []) → ⊥
no_edges es = go (es.ends the-race (whole-self two two-laws 0))
  where
    go : T (eqb 0 1) ⊎ ((p q : ℕ) × Listed p q [] × (q ≤ 1) × T (eqb q 1) × Whole two p 0) → ⊥
    go (inl h) = h
    go (inr (p, q, m, k, g, w)) = Memᴰ.not-nil m
