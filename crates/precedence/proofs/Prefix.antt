-- What stands before a record alone decides its refusal by 31: two lists with the same first i records have the same table there. Assumes nothing.
use Prim.Native.Nat.{ℕ, zero, suc, ◌≤◌, ◌<◌}
use mathlib.Core.Path.{◌≡◌, refl, ap₂, ◌∙◌}
use mathlib.Core.Bool.{Bool, not, ◌&&◌, ◌||◌}
use mathlib.Core.List.{List, ◌∷◌}
use native.Mathlib.Omega.{arith}
use Rattle.records.specs.declared.Record.{Record}
use lib.Dec.{eqb}
use Rattle.records.specs.Records.{at, past, begun}
use Rattle.coverage.specs.Below.{some}
use Rattle.precedence.specs.Table.{Table, ahead, some_target, sets, table, missing, blocked_for}

some_same : (n : ℕ) (p q : ℕ → Bool) → ((x : ℕ) → x < n → p x ≡ q x) → some n p ≡ some n q
unfolding some
some_same zero p q h = refl
some_same (suc n) p q h = ap₂ (λ (a b : Bool). a || b) (h n (omega arith)) (some_same n p q (λ x l. h x (omega arith)))

module _ (tr tr' : List Record) (n : ℕ) (same : (x : ℕ) → x < n → at tr x ≡ at tr' x) where
  pub past_same : (i : ℕ) → i ≤ n → past tr i ≡ past tr' i
  unfolding past
  past_same zero l = refl
  past_same (suc i) l = ap₂ (λ (r : Record) (before : List Record). r ∷ before) (same i (omega arith)) (past_same i (omega arith))

  targets-same : (b : Table) (i e : ℕ) (q : ℕ → Bool) → i ≤ n → some_target tr b i e q ≡ some_target tr' b i e q
  unfolding some_target ahead
  targets-same b i e q l =
      some_same i (λ y. some y (λ x. ahead tr b e x y && q (at tr x).second)) (λ y. some y (λ x. ahead tr' b e x y && q (at tr' x).second))
      (λ y h. some_same y (λ x. ahead tr b e x y && q (at tr x).second) (λ x. ahead tr' b e x y && q (at tr' x).second)
      (λ x k. rw (same x (omega arith), same y (omega arith))))

  table_step : (i : ℕ) → i < n → table tr i ≡ table tr' i → (t u : ℕ) → table tr (suc i) t u ≡ table tr' (suc i) t u
  unfolding table sets
  table_step i l e t u = rw (e, same i l, targets-same (table tr' i) i u (table tr' i t) (omega arith))

  pub table_same : (i : ℕ) → i ≤ n → table tr i ≡ table tr' i
  unfolding table
  table_same zero l = refl
  table_same (suc i) l = let e = table_step i (omega arith) (table_same i (omega arith)) in λ z t u. e t u z

  pub blocked-same : (e : ℕ) → blocked_for tr n e ≡ blocked_for tr' n e
  unfolding blocked_for
  blocked-same e =
      targets-same (table tr n) n e (missing tr n e) (omega arith)
      ∙ ap₂ (λ (b : Table) (before : List Record). some_target tr' b n e (λ v. not (eqb v e) && not (begun v before)))
      (table_same n (omega arith)) (past_same n (omega arith))
