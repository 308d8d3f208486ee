-- The begins among the first records, and the ranks that they give. Assumes nothing.
use Prim.Native.Nat.{ℕ, zero, suc, ◌+◌, ◌-◌, ◌<◌, ◌≤◌}
use mathlib.Core.Path.{◌≡◌, refl, ◌∙◌}
use mathlib.Core.Bool.{cond, ◌&&◌}
use mathlib.Core.List.{List}
use mathlib.Core.Logic.{◌≢◌, ◌⊎◌, inl, inr}
use native.Mathlib.Omega.{arith}
use native.Mathlib.Nat.{not-suc-le-zero, eq-or-lt_of_le, le_of_suc-le-suc}
use native.Mathlib.Decide.{ℕ_discrete}
use borrow.Author.Tests.{eq-eqb, ne_eqb}
use lib.Dec.{eqb}
use Rattle.records.specs.declared.Record.{Record}
use Rattle.records.specs.Records.{at, past, is_begin}
use Rattle.records.specs.Records as records
use Rattle.records.proofs.Positions.{Found}
use Rattle.order.specs.Rank.{rank_in}

module _ (tr : List Record) where
  abbrev pub counted : ℕ → ℕ
  counted i = records.begins (past tr i)

  -- the begins among the first i records: one more at a begin, and never fewer
  pub counted-begin : (i : ℕ) → (at tr i).kind ≡ 1 → counted (suc i) ≡ counted i + 1
  unfolding records.begins past
  counted-begin i k = rw (eq-eqb (at tr i).kind 1 k)

  pub counted-zero : counted 0 ≡ 0
  unfolding records.begins past
  counted-zero = refl

  pub counted-other : (i : ℕ) → (at tr i).kind ≢ 1 → counted (suc i) ≡ counted i
  unfolding records.begins past
  counted-other i n = rw (ne_eqb (at tr i).kind 1 n)

  counted_next : (i : ℕ) → counted i ≤ counted (suc i)
  counted_next i = go (ℕ_discrete (at tr i).kind 1)
    where
      go : Dec ((at tr i).kind ≡ 1) → counted i ≤ counted (suc i)
      go (yes k) = omega (arith, counted-begin i k)
      go (no n) = omega (arith, counted-other i n)

  counted-by : (d i : ℕ) → counted i ≤ counted (i + d)
  counted-by zero i = let e : i + 0 ≡ i = omega arith in rw e (omega arith)
  counted-by (suc d) i = let e : i + suc d ≡ suc (i + d) = omega arith in rw e (omega (arith, counted-by d i, counted_next (i + d)))

  pub counted-more : (i j : ℕ) → i ≤ j → counted i ≤ counted j
  counted-more i j l = let e : i + (j - i) ≡ j = omega arith in rw e at (counted-by (j - i) i)

  pub counted-passes : (i j : ℕ) → i < j → (at tr i).kind ≡ 1 → counted i < counted j
  counted-passes i j l k = omega (arith, counted-begin i k, counted-more (suc i) j l)

  -- the rank among the first i records, of an event that begins once among them
  pub rank-here : (e i : ℕ) → (at tr i).kind ≡ 1 → (at tr i).first ≡ e → rank_in e (past tr (suc i)) ≡ counted i + 1
  unfolding rank_in past
  rank-here e i k q = rw (eq-eqb (at tr i).kind 1 k, eq-eqb (at tr i).first e q)

  pub rank-before : (e i : ℕ) → (((at tr i).kind ≡ 1) × ((at tr i).first ≡ e) → ⊥) → rank_in e (past tr (suc i)) ≡ rank_in e (past tr i)
  unfolding rank_in past
  rank-before e i n = go (ℕ_discrete (at tr i).kind 1) (ℕ_discrete (at tr i).first e)
    where
      go : Dec ((at tr i).kind ≡ 1) → Dec ((at tr i).first ≡ e)
          → cond (is_begin (at tr i) && eqb (at tr i).first e) (counted i + 1) (rank_in e (past tr i)) ≡ rank_in e (past tr i)
      go (no m) _ = rw (ne_eqb (at tr i).kind 1 m)
      go (yes k) (no m) = rw (eq-eqb (at tr i).kind 1 k, ne_eqb (at tr i).first e m)
      go (yes k) (yes q) = absurd (n (k, q))

  pub rank-at : (e j i : ℕ) → j < i → (at tr j).kind ≡ 1 → (at tr j).first ≡ e
      → ((k : ℕ) → k < i → (at tr k).kind ≡ 1 → (at tr k).first ≡ e → k ≡ j) → rank_in e (past tr i) ≡ counted j + 1
  rank-at e j zero l k q f = absurd (not-suc-le-zero l)
  rank-at e j (suc i) l k q f = go (eq-or-lt_of_le (le_of_suc-le-suc l)) (rank-at e j i)
    where
      go : (j ≡ i) ⊎ (j < i)
          → (j < i → (at tr j).kind ≡ 1 → (at tr j).first ≡ e → ((k : ℕ) → k < i → (at tr k).kind ≡ 1 → (at tr k).first ≡ e → k ≡ j)
          → rank_in e (past tr i) ≡ counted j + 1)
          → rank_in e (past tr (suc i)) ≡ counted j + 1
      go (inl z) ih = rw z (rank-here e i (rw (← z) k) (rw (← z) q))
      go (inr m) ih = rank-before e i (λ p. omega (arith, f i (omega arith) p.0 p.1, m)) ∙ ih m k q (λ x h a b. f x (omega arith) a b)

  pub rank-found : (e i : ℕ) → rank_in e (past tr i) ≢ 0 → Found tr is_begin e i
  unfolding rank_in past
  rank-found e zero n = absurd (n refl)
  rank-found e (suc i) n = go (ℕ_discrete (at tr i).kind 1) (ℕ_discrete (at tr i).first e) (rank-found e i)
    where
      later : Found tr is_begin e i → Found tr is_begin e (suc i)
      later r = let l = r.earlier in record { at_position = r.at_position; earlier = omega arith; passes = r.passes; event = r.event }

      go : Dec ((at tr i).kind ≡ 1) → Dec ((at tr i).first ≡ e) → (rank_in e (past tr i) ≢ 0 → Found tr is_begin e i) → Found tr is_begin e (suc i)
      go (yes k) (yes q) f = record { at_position = i; earlier = omega arith; passes = eq-eqb (at tr i).kind 1 k; event = q }
      go (no m) _ f = later (f (rw (rank-before e i (λ p. m p.0)) at n))
      go (yes k) (no m) f = later (f (rw (rank-before e i (λ p. m p.1)) at n))
