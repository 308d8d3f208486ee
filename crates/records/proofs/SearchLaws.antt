-- Looking for the next access of a cell, record by record. Assumes nothing.
use Prim.Native.Nat.{ℕ, suc, ◌+◌, ◌≤◌, ◌<◌}
use mathlib.Core.Path.{◌≡◌, sym, subst}
use mathlib.Core.Logic.{◌⊎◌, inl, inr}
use mathlib.Core.Bool.{true, false}
use mathlib.Core.List.{List}
use native.Mathlib.Omega.{arith}
use native.Mathlib.Numerals.{add-one}
use native.Mathlib.Nat.{eq-or-lt_of_le, le_of_suc-le-suc}
use lib.Dec.{T}
use lib.ListN.{length}
use Rattle.records.specs.declared.Record.{Record}
use Rattle.records.specs.Search.{may_race, Past, NextAccess, NextFrom}
use Rattle.records.proofs.Positions.{lt-or-ge}

near : {x i : ℕ} → x < suc i → (x ≡ i) ⊎ (x < i)
near l = eq-or-lt_of_le (le_of_suc-le-suc l)

module _ (tr : List Record) (least c : ℕ) where
  pub past-none : (i : ℕ) → Past tr least c i i
  past-none i = record { low = omega arith; none = λ x l k t. omega arith }

  pub past_more : {i r q : ℕ} → q ≡ r + 1 → Past tr least c i r → may_race tr least c r ≡ false → Past tr least c i q
  past_more {i} {r} e w n = rw (e, add-one r) (record { low = omega (arith, w.low); none = λ x l k t. go x l (near k) t })
    where
      go : (x : ℕ) → i ≤ x → (x ≡ r) ⊎ (x < r) → T (may_race tr least c x) → ⊥
      go x l (inl e) t = subst T n (subst (λ (y : ℕ). T (may_race tr least c y)) e t)
      go x l (inr k) t = w.none x l k t

  pub past-on : {i j r : ℕ} → Past tr least c i j → Past tr least c j r → Past tr least c i r
  past-on {i} {j} {r} v w = record { low = omega (arith, v.low, w.low); none = λ x l k t. go x l k (lt-or-ge x j) t }
    where
      go : (x : ℕ) → i ≤ x → x < r → (x < j) ⊎ (j ≤ x) → T (may_race tr least c x) → ⊥
      go x l k (inl m) t = v.none x l m t
      go x l k (inr m) t = w.none x m k t

  pub next_here : {from to r q : ℕ} → q ≡ r → r ≤ to → Past tr least c from r → may_race tr least c q ≡ true → NextAccess tr least c from to r
  next_here {from} {to} {r} e h w t = record { high = h; past = w; found = λ l. subst (λ (x : ℕ). T (may_race tr least c x)) e (subst T (sym t) tt) }

  pub next-none : {from to r : ℕ} → r ≡ to → Past tr least c from r → NextAccess tr least c from to r
  next-none e w = record { high = omega arith; past = w; found = λ l. absurd (omega arith) }

  pub next-on : {from i to end r : ℕ} → Past tr least c from i → NextAccess tr least c i end r → end ≤ to → (r ≡ end → end ≡ to) → NextAccess tr least c from to r
  next-on {from} {i} {to} {end} {r} v w l q =
      let h = w.high in
      record { high = omega arith; past = past-on v w.past; found = λ k. w.found (let g : r ≡ end → ⊥ = λ (e : r ≡ end). let z = q e in omega arith in omega (arith, g)) }

  pub far : {from to r : ℕ} → length tr < to → r ≡ to → NextFrom tr least c from to r
  far l e = record { long = λ k. e; none_between = λ k m. absurd (omega arith); next = λ k m. absurd (omega arith) }

  pub between_none : {from to r : ℕ} → to ≤ length tr → to < from → r ≡ from → NextFrom tr least c from to r
  between_none l m e = record { long = λ k. absurd (omega arith); none_between = λ k q. e; next = λ k q. absurd (omega arith) }

  pub found-next : {from to r : ℕ} → from ≤ to → to ≤ length tr → NextAccess tr least c from to r → NextFrom tr least c from to r
  found-next l m n = record { long = λ k. absurd (omega arith); none_between = λ k q. absurd (omega arith); next = λ k q. n }
