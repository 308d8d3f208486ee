-- The walk from the last send to e is the walk from further on. Assumes nothing.
use Prim.Native.Nat.{ℕ, zero, suc, ◌+◌, ◌-◌, ◌%◌, ◌≤◌, ◌<◌}
use mathlib.Core.Path.{◌≡◌, refl, sym, ap, ◌∙◌, subst}
use mathlib.Core.Logic.{◌≢◌, ◌⊎◌, inl, inr}
use mathlib.Core.Bool.{Bool, true, false, not, ◌&&◌}
use mathlib.Core.List.{List}
use native.Mathlib.Omega.{arith}
use native.Mathlib.Nat.{mod-eq_of_lt}
use borrow.Author.Tests.{ne_eqb}
use lib.Dec.{T, eqb}
use lib.ListN.{length, get_or, set, length-set}
use lib.Seq.{get_or-set_same, get_or-set_other}
use Rattle.slices.specs.Slices.{zeros}
use Rattle.slices.proofs.Tests.{decide_eq}
use Rattle.records.specs.declared.Record.{Record}
use Rattle.records.specs.Records.{at}
use Rattle.records.proofs.Positions.{decide}
use Rattle.bits.specs.Words.{words_if}
use Rattle.bits.proofs.RowLaws.{no_member}
use Rattle.records.specs.Kinds.{is_send}
use Rattle.links.specs.Rule.{sends, hits, turn_words, turn_sets, turn_stuck, walk}
use Rattle.links.specs.Fill.{step_last}

-- no send to e from position j up to i
abbrev pub NoSend : List Record → ℕ → ℕ → ℕ → Type 0
NoSend tr e j i = (m : ℕ) → j ≤ m → m < i → is_send (at tr m) ≡ true → (at tr m).second ≢ e

and_no : (a : Bool) → (a && false) ≡ false
and_no true = refl
and_no false = refl

module _ (tr : List Record) (f : ℕ → ℕ) (e u : ℕ) (ws : List ℕ) where
  no-hits : (m : ℕ) → hits f e u (at tr m) ws (zeros 64) ≡ false
  unfolding hits
  no-hits m =
      ap (λ (x : Bool). sends f e u (at tr m) ws (zeros 64) && (not (eqb (at tr m).second e) && x)) (no_member 64 ((at tr m).kind - 16) (f (at tr m).first - 1))
      ∙ ap (λ (x : Bool). sends f e u (at tr m) ws (zeros 64) && x) (and_no (not (eqb (at tr m).second e)))
      ∙ and_no (sends f e u (at tr m) ws (zeros 64))

  not-to : (m : ℕ) → (is_send (at tr m) ≡ true → (at tr m).second ≢ e) → (sends f e u (at tr m) ws (zeros 64) && eqb (at tr m).second e) ≡ false
  unfolding sends
  not-to m h = go (decide (is_send (at tr m)))
    where
      go : (is_send (at tr m) ≡ true) ⊎ (is_send (at tr m) ≡ false) → ((is_send (at tr m) && not (eqb (f (at tr m).first) 0)) && eqb (at tr m).second e) ≡ false
      go (inr n) = rw n
      go (inl y) = rw (ne_eqb (at tr m).second e (h y)) (and_no (is_send (at tr m) && not (eqb (f (at tr m).first) 0)))

  skip : (m : ℕ) → (is_send (at tr m) ≡ true → (at tr m).second ≢ e) → walk tr f e u (suc m) ws (zeros 64) ≡ walk tr f e u m ws (zeros 64)
  unfolding walk turn_words turn_sets turn_stuck
  skip m h = rw (no-hits m, not-to m h)

  pub walk-skips : (i j : ℕ) → j ≤ i → NoSend tr e j i → walk tr f e u i ws (zeros 64) ≡ walk tr f e u j ws (zeros 64)
  walk-skips zero j l n = let q : j ≡ 0 = omega arith in rw q
  walk-skips (suc i) j l n = go (decide_eq j (suc i)) (walk-skips i j)
    where
      go : (j ≡ suc i) ⊎ (j ≢ suc i) → (j ≤ i → NoSend tr e j i → walk tr f e u i ws (zeros 64) ≡ walk tr f e u j ws (zeros 64))
          → walk tr f e u (suc i) ws (zeros 64) ≡ walk tr f e u j ws (zeros 64)
      go (inl q) g = rw q
      go (inr d) g = let k : j ≤ i = omega (arith, d) in skip i (n i k (omega arith)) ∙ g k (λ m a b. n m a (omega arith))

-- the last sends noted after i records
pub record Noted (tr : List Record) (i : ℕ) (last : List ℕ) : Type 0 where
  pub room : 1025 ≤ length last
  pub reached : (e : ℕ) → e ≤ 1024 → get_or last e 0 ≤ i
  pub none_after : (e : ℕ) → e ≤ 1024 → NoSend tr e (get_or last e 0) i

module _ (tr : List Record) (f : ℕ → ℕ) (i : ℕ) (ws last : List ℕ) (h : i < 65535) (z : Noted tr i last) where
  noted_other : is_send (at tr i) ≡ false → Noted tr (suc i) last
  noted_other n = record {
    room = z.room;
    reached = λ e l. let k = z.reached e l in omega arith;
    none_after = λ e l m a b y. go e l m a y (decide_eq m i) b;
  }
    where
      go : (e : ℕ) → e ≤ 1024 → (m : ℕ) → get_or last e 0 ≤ m → is_send (at tr m) ≡ true → (m ≡ i) ⊎ (m ≢ i) → m < suc i → (at tr m).second ≢ e
      go e l m a y (inr d) b = z.none_after e l m a (omega (arith, d)) y
      go e l m a y (inl q) b = λ c. clash (sym (subst (λ (x : ℕ). is_send (at tr x) ≡ true) q y) ∙ n)
        where
          clash : true ≡ false → ⊥
          clash p = subst T p tt

  noted-send : is_send (at tr i) ≡ true → Noted tr (suc i) (set last (at tr i).second ((i + 1) % 65536))
  noted-send s = record {
    room = let k = length-set last (at tr i).second ((i + 1) % 65536) in let r = z.room in omega arith;
    reached = λ e l. reached' e l (decide_eq e (at tr i).second);
    none_after = λ e l m a b y. after e l m a b y (decide_eq e (at tr i).second);
  }
    where
      t : ℕ
      t = (at tr i).second

      now-is : (e : ℕ) → e ≤ 1024 → e ≡ (at tr i).second → get_or (set last (at tr i).second ((i + 1) % 65536)) e 0 ≡ suc i
      now-is e l q =
          let r = z.room in
          let m : (i + 1) % 65536 ≡ i + 1 = mod-eq_of_lt (omega arith) in
          let k : i + 1 ≡ suc i = omega arith in
          rw q (get_or-set_same last (at tr i).second ((i + 1) % 65536) 0 (omega (arith, q))) ∙ m ∙ k

      reached' : (e : ℕ) → e ≤ 1024 → (e ≡ (at tr i).second) ⊎ (e ≢ (at tr i).second) → get_or (set last (at tr i).second ((i + 1) % 65536)) e 0 ≤ suc i
      reached' e l (inl q) = let k = now-is e l q in omega arith
      reached' e l (inr d) =
          let k = z.reached e l in
          let q = get_or-set_other last (at tr i).second e ((i + 1) % 65536) 0 d in
          omega arith

      after : (e : ℕ) → e ≤ 1024 → (m : ℕ) → get_or (set last (at tr i).second ((i + 1) % 65536)) e 0 ≤ m → m < suc i → is_send (at tr m) ≡ true
          → (e ≡ (at tr i).second) ⊎ (e ≢ (at tr i).second) → (at tr m).second ≢ e
      after e l m a b y (inl q) = let k = now-is e l q in absurd (omega arith)
      after e l m a b y (inr d) = by (decide_eq m i)
        where
          by : (m ≡ i) ⊎ (m ≢ i) → (at tr m).second ≢ e
          by (inl q) = λ c. d (sym c ∙ ap (λ (x : ℕ). (at tr x).second) q)
          by (inr n) =
              let q = get_or-set_other last (at tr i).second e ((i + 1) % 65536) 0 d in
              z.none_after e l m (omega arith) (omega (arith, n)) y

  pub noted-next : Noted tr (suc i) (step_last tr f i ws last)
  unfolding step_last
  noted-next = go (decide (is_send (at tr i)))
    where
      go : (is_send (at tr i) ≡ true) ⊎ (is_send (at tr i) ≡ false)
          → Noted tr (suc i) (words_if (is_send (at tr i)) (set last (at tr i).second ((i + 1) % 65536)) last)
      go (inl y) = rw y (noted-send y)
      go (inr y) = rw y (noted_other y)
