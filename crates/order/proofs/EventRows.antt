-- Each row of a trace is the row of an event. Assumes nothing.
use Prim.Native.Nat.{ℕ, zero, suc, ◌≤◌, ◌<◌}
use mathlib.Core.Path.{◌≡◌}
use mathlib.Core.List.{List}
use native.Mathlib.Omega.{arith}
use native.Mathlib.Decide.{ℕ_discrete}
use lib.Dec.{leb, leb→le, le→leb}
use lib.ListN.{length}
use Rattle.records.specs.declared.Record.{Record}
use Rattle.records.specs.Records.{at}
use Rattle.order.specs.Chains.{first}
use Rattle.order.proofs.CountLaws.{First, first-first}
use Rattle.order.proofs.Counted.{counted, counted-begin, counted-zero, counted-other}

module _ (tr : List Record) where
  -- how many begin
  abbrev pub events : ℕ
  events = counted tr (length tr)

  -- where event action r begins: the first record up to which more than r begin; its event
  pub begin_of : ℕ → ℕ
  begin_of r = first (λ i. leb (suc r) (counted tr (suc i))) (length tr)

  abbrev pub name_of : ℕ → ℕ
  name_of r = (at tr (begin_of r)).first

  pub record Begun (r i : ℕ) : Type 0 where
    pub inside : i < length tr
    pub kind : (at tr i).kind ≡ 1
    pub number : counted tr i ≡ r

  pub begun : (r : ℕ) → r < events → Begun r (begin_of r)
  unfolding begin_of
  begun r h = record { inside = inside; kind = kind (ℕ_discrete (at tr i).kind 1); number = number (ℕ_discrete (at tr i).kind 1) }
    where
      i : ℕ
      i = first (λ i. leb (suc r) (counted tr (suc i))) (length tr)

      f : First (λ i. leb (suc r) (counted tr (suc i))) 0 (length tr) i
      f = first-first (λ i. leb (suc r) (counted tr (suc i))) (length tr)

      -- before place k, at most r begin
      few : (k : ℕ) → k ≤ i → counted tr k ≤ r
      few zero a = omega (arith, counted-zero tr)
      few (suc k) a =
          let g : suc r ≤ counted tr (suc k) → ⊥ = λ x. f.none k (omega arith) (omega arith) (le→leb (suc r) (counted tr (suc k)) x) in
          omega (arith, g)

      inside : i < length tr
      inside = let g : i ≡ length tr → ⊥ = λ (e : i ≡ length tr). let k = few (length tr) (omega arith) in omega arith in omega (arith, g, f.to)

      many : r < counted tr (suc i)
      many = leb→le (suc r) (counted tr (suc i)) (f.passes inside)

      kind : Dec ((at tr i).kind ≡ 1) → (at tr i).kind ≡ 1
      kind (yes k) = k
      kind (no n) = absurd (omega (arith, many, few i (omega arith), counted-other tr i n))

      number : Dec ((at tr i).kind ≡ 1) → counted tr i ≡ r
      number (yes k) = omega (arith, many, few i (omega arith), counted-begin tr i k)
      number (no n) = absurd (omega (arith, many, few i (omega arith), counted-other tr i n))
