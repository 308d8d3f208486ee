-- Where there is a race there is an open one.
use Prim.Native.Nat.{ℕ, zero, suc, ◌<◌}
use mathlib.Core.Logic.{◌⊎◌, inl, inr}
use mathlib.Core.List.{List}
use native.Mathlib.Omega.{arith}
use lib.Dec.{T}
use Rattle.coverage.specs.Setting.{Setting, Laws}
use Rattle.coverage.specs.Race.{before, Race}
use Rattle.coverage.specs.Cover.{CoversFrom, one, more, Open}
use Rattle.coverage.specs.Leading.{leads}
use Rattle.slices.proofs.Tests.{decide}
use Rattle.coverage.proofs.Order.{before-lt}
use Rattle.coverage.proofs.Leads.{covered-iff}

module _ (t : Setting) (w : Laws t) where
  -- the last race of a cover
  cover-end : {b u : ℕ} {cs : List (ℕ × ℕ)} → CoversFrom t b u cs → (c d : ℕ) × Race t c d × T (before t d b)
  cover-end (one {c = c} {d = d} h r q) = (c, d, r, q)
  cover-end (more h r s) = cover-end s

  below : (k a b : ℕ) → b < k → Race t a b → (c d : ℕ) × Race t c d × Open t c d
  below zero a b l r = absurd (omega arith)
  below (suc k) a b l r = go (decide (leads t b (t.ev a))) (below k)
    where
      go : T (leads t b (t.ev a)) ⊎ (T (leads t b (t.ev a)) → ⊥) → ((c d : ℕ) → d < k → Race t c d → (c' d' : ℕ) × Race t c' d' × Open t c' d') → (c d : ℕ) × Race t c d × Open t c d
      go (inr n) f = (a, b, r, λ cs c. n ((covered-iff t w a b r).1 (cs, c)))
      go (inl h) f =
          let e = cover-end ((covered-iff t w a b r).0 h).1 in
          f e.0 e.1 (omega (arith, before-lt t w e.1 b e.2.inside r.inside e.3)) e.2

  pub some-open : (a b : ℕ) → Race t a b → (c d : ℕ) × Race t c d × Open t c d
  some-open a b r = below (suc b) a b (omega arith) r
