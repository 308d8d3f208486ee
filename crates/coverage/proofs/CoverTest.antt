-- The computed test says what a cover is. Assumes nothing.
use Prim.Native.Nat.{ℕ}
use mathlib.Core.List.{List, [], ◌∷◌}
use mathlib.Core.Bool.{◌&&◌}
use lib.Dec.{T}
use Rattle.coverage.specs.Setting.{Setting}
use Rattle.coverage.specs.Race.{before, Race, raceb}
use Rattle.coverage.specs.Cover.{CoversFrom, one, more, covers_fromb}
use Rattle.slices.proofs.Tests.{both, and}
use Rattle.coverage.proofs.Order.{race-of, of-race}

module _ (t : Setting) (b : ℕ) where
  -- the tests of one race of a cover
  starts : (u c d : ℕ) → T (t.le u (t.ev c) && raceb t c d) → T (t.le u (t.ev c)) × Race t c d
  starts u c d h = let k = both (t.le u (t.ev c)) (raceb t c d) h in (k.0, race-of t c d k.1)

  of-starts : (u c d : ℕ) → T (t.le u (t.ev c)) → Race t c d → T (t.le u (t.ev c) && raceb t c d)
  of-starts u c d h r = and (t.le u (t.ev c)) (raceb t c d) h (of-race t c d r)

  pub cover-of : (u : ℕ) (cs : List (ℕ × ℕ)) → T (covers_fromb t b u cs) → CoversFrom t b u cs
  unfolding covers_fromb
  cover-of u [] h = absurd h
  cover-of u ((c, d) ∷ []) h =
      let k = both (t.le u (t.ev c) && raceb t c d) (before t d b) h in
      let s = starts u c d k.0 in
      one s.0 s.1 k.1
  cover-of u ((c, d) ∷ (e ∷ cs)) h =
      let k = both (t.le u (t.ev c) && raceb t c d) (covers_fromb t b (t.ev d) (e ∷ cs)) h in
      let s = starts u c d k.0 in
      more s.0 s.1 (cover-of (t.ev d) (e ∷ cs) k.1)

  longer : (u c d : ℕ) (cs : List (ℕ × ℕ)) → T (t.le u (t.ev c)) → Race t c d → T (covers_fromb t b (t.ev d) cs) → T (covers_fromb t b u ((c, d) ∷ cs))
  unfolding covers_fromb
  longer u c d [] h r k = absurd k
  longer u c d (e ∷ cs) h r k = and (t.le u (t.ev c) && raceb t c d) (covers_fromb t b (t.ev d) (e ∷ cs)) (of-starts u c d h r) k

  pub of-cover : {u : ℕ} {cs : List (ℕ × ℕ)} → CoversFrom t b u cs → T (covers_fromb t b u cs)
  unfolding covers_fromb
  of-cover (one {u = u} {c = c} {d = d} h r k) = and (t.le u (t.ev c) && raceb t c d) (before t d b) (of-starts u c d h r) k
  of-cover (more {u = u} {c = c} {d = d} {cs = cs} h r k) = longer u c d cs h r (of-cover k)
