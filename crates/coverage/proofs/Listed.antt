-- What leads to b does so by the races of either list: from an event action that leads to b, and is not at or below ev(b), one of them leads on.
use Prim.Native.Nat.{ℕ, zero, suc, ◌≤◌, ◌<◌}
use mathlib.Core.Path.{◌≡◌}
use mathlib.Core.Logic.{◌⊎◌, inl, inr}
use mathlib.Core.List.{List}
use native.Mathlib.Omega.{arith}
use lib.Dec.{T}
use Rattle.coverage.specs.Below.{Listed}
use Rattle.coverage.specs.Setting.{Setting, Laws}
use Rattle.coverage.specs.Race.{Race}
use Rattle.coverage.specs.Leading.{leads}
use Rattle.coverage.specs.Neighbours.{Cells, conflicts}
use Rattle.coverage.specs.Lists.{all_races, short_list}
use Rattle.coverage.specs.loops.Whole.{Whole, Edges}
use Rattle.slices.proofs.Tests.{decide}
use Rattle.coverage.proofs.Order.{race-after}
use Rattle.coverage.proofs.Leads.{le-leads, leads-below, leads-race}
use Rattle.coverage.proofs.Whole.{Ends, whole-ends, leads-ends}
use Rattle.coverage.proofs.WholeEdges.{all_edges, short-edges}

-- The race (c, d) leads on from u to b.
pub record On (t : Setting) (b u c d : ℕ) : Type 0 where
  pub race : Race t c d
  pub above : T (t.le u (t.ev c))
  pub below : d < b
  pub leading : T (leads t b (t.ev d))

-- Some race of the list does, wherever one has to.
abbrev pub Enough : Setting → List (ℕ × ℕ) → Type 0
Enough t ps = (b u : ℕ) → b < t.size → T (leads t b u) → (T (t.le u (t.ev b)) → ⊥) → (c d : ℕ) × Listed c d ps × On t b u c d

module _ (t : Setting) (l : Laws t) (ps : List (ℕ × ℕ)) (es : Edges t (λ c d. Listed c d ps)) where
  abbrev Found : ℕ → ℕ → Type 0
  Found b u = (c d : ℕ) × Listed c d ps × On t b u c d

  -- down the edges, from one on a way from u to the first of such a way
  climb : (n b u c d : ℕ) → d < n → Listed c d ps → d < b → T (leads t b (t.ev d)) → Whole t (t.ev c) u → Found b u
  climb zero b u c d k e m h w = absurd (omega arith)
  climb (suc n) b u c d k e m h w = go (decide (t.le u (t.ev c))) (climb n b u)
    where
      r : Race t c d
      r = es.race e

      go : T (t.le u (t.ev c)) ⊎ (T (t.le u (t.ev c)) → ⊥) → ((c d : ℕ) → d < n → Listed c d ps → d < b → T (leads t b (t.ev d)) → Whole t (t.ev c) u → Found b u) → Found b u
      go (inl g) f = (c, d, e, record { race = r; above = g; below = m; leading = h })
      go (inr z) f = at (whole-ends t w)
        where
          at : Ends t t.size (t.ev c) u → Found b u
          at (inl g) = absurd (z g)
          at (inr (p, q, s, i, g, x)) = on (es.ends s x)
            where
              on : T (t.le u (t.ev q)) ⊎ ((v y : ℕ) × Listed v y ps × (y ≤ q) × T (t.le (t.ev y) (t.ev q)) × Whole t (t.ev v) u) → Found b u
              on (inl j) = absurd (z (l.le_trans _ _ _ j g))
              on (inr (v, y, a, j, o, x)) = let i' = race-after t l q c d i g r in f v y (omega arith) a (omega arith) (leads-below t l b (t.ev y) (t.ev c) (l.le_trans _ _ _ o g) (leads-race t l b c d r m h)) x

  pub edges-enough : Enough t ps
  edges-enough b u i h n = go ((leads-ends t l b u i).0 h)
    where
      go : Ends t b (t.ev b) u → Found b u
      go (inl k) = absurd (n k)
      go (inr (c, d, r, m, g, w)) = on (es.ends r w)
        where
          on : T (t.le u (t.ev d)) ⊎ ((v y : ℕ) × Listed v y ps × (y ≤ d) × T (t.le (t.ev y) (t.ev d)) × Whole t (t.ev v) u) → Found b u
          on (inl j) = absurd (n (l.le_trans _ _ _ j g))
          on (inr (v, y, a, j, o, x)) = climb (suc y) b u v y (omega arith) a (omega arith) (le-leads t l b (t.ev y) (l.le_trans _ _ _ o g)) x

module _ (t : Setting) (l : Laws t) where
  pub all-enough : Enough t (all_races t)
  all-enough = edges-enough t l (all_races t) (all_edges t l)

  module _ (s : Cells) (means : (a b : ℕ) → t.conf a b ≡ conflicts s a b) where
    pub short-enough : Enough t (short_list t s)
    short-enough = edges-enough t l (short_list t s) (short-edges t l s means)
