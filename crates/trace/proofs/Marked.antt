-- A record that is well formed, and which facts count for its rule.
-- Assumes nothing.
use Prim.Native.Nat.{ℕ}
use mathlib.Core.Path.{◌≡◌, refl}
use mathlib.Core.Bool.{Bool, true, false, cond, and-eq-true_iff}
use native.Mathlib.Omega.{arith}
use borrow.Author.Tests.{ne_eqb, ltb-true, lt-leb}
use lib.Dec.{ltb, eqb}
use Rattle.records.specs.declared.Record.{Record}
use Rattle.trace.specs.Rule.{numbered, well_formed, again, early, judge}

pub formed : (r : Record) → well_formed r ≡ true → (numbered r.first ≡ true) × (cond (ltb r.kind 3) (eqb r.second 0) (numbered r.second) ≡ true)
unfolding well_formed
formed r q = (and-eq-true_iff (numbered r.first) (cond (ltb r.kind 3) (eqb r.second 0) (numbered r.second))).0 q

-- the first three facts count only where the numbers are in range
module _ (s o : ℕ) (r : Record) (a a' b b' c c' h : Bool)
    (f : numbered r.first ≡ true → a ≡ a') (g : numbered r.second ≡ true → (b ≡ b') × (c ≡ c')) where
  formed-same : numbered r.first ≡ true → (k : Bool) → ltb r.kind 3 ≡ k → cond k (eqb r.second 0) (numbered r.second) ≡ true → judge s o r a b c h ≡ judge s o r a' b' c' h
  unfolding judge again early
  formed-same n true k q =
      let l = ltb-true r.kind 3 k in
      simp (ne_eqb r.kind 3 (λ p. omega arith), lt-leb 16 r.kind (omega arith), ne_eqb r.kind 4 (λ p. omega arith), f n)
  formed-same n false k q = simp (f n, (g q).0, (g q).1)

  judge-by : (w : Bool) → well_formed r ≡ w → judge s o r a b c h ≡ judge s o r a' b' c' h
  unfolding judge
  judge-by false q = simp q
  judge-by true q = let p = formed r q in formed-same p.0 (ltb r.kind 3) refl p.1

  pub judge-same : judge s o r a b c h ≡ judge s o r a' b' c' h
  judge-same = judge-by (well_formed r) refl
