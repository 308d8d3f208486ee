-- At most 1,024 event actions: an event begins at most once, and its number is 1 to 1,024.
-- Assumes nothing.
use Prim.Native.Nat.{ℕ, zero, suc, ◌+◌, ◌<◌, ◌≤◌}
use mathlib.Core.Path.{◌≡◌, refl, sym}
use mathlib.Core.Bool.{Bool, true, false, and-eq-true_iff}
use mathlib.Core.List.{List, [], ◌∷◌}
use mathlib.Core.Logic.{◌⊎◌, inl, inr}
use native.Mathlib.Omega.{arith}
use native.Mathlib.Nat.{eq-or-lt_of_le}
use borrow.Author.Tests.{eq-eqb, ne_eqb, eqb-true, leb-true}
use lib.Dec.{leb}
use lib.ListN.{length}
use Rattle.records.specs.declared.Record.{Record}
use Rattle.records.specs.Records.{at, past, is_begin, has, begun, begins}
use Rattle.trace.specs.Rule.{numbered}
use Rattle.trace.specs.Reading.{Acceptable}
use Rattle.trace.proofs.Marked.{formed}
use Rattle.trace.proofs.Passed.{Passes, AllPass, start-fresh}
use Rattle.trace.proofs.Blocks.{all_pass}

abbrev one : Bool → ℕ
one true = 1
one false = 0

-- how many of the events 1 to k have begun
unfoldable tally : ℕ → List Record → ℕ
tally zero before = 0
tally (suc k) before = one (begun (suc k) before) + tally k before

one-most : (b : Bool) → one b ≤ 1
one-most true = omega arith
one-most false = omega arith

tally-most : (k : ℕ) (before : List Record) → tally k before ≤ k
unfolding tally
tally-most zero before = omega arith
tally-most (suc k) before = let t = tally-most k before in let o = one-most (begun (suc k) before) in omega arith

module _ (r : Record) (before : List Record) where
  -- a record that is no begin
  tally-same : is_begin r ≡ false → (k : ℕ) → tally k (r ∷ before) ≡ tally k before
  unfolding tally begun has
  tally-same n zero = refl
  tally-same n (suc k) = simp (n, tally-same n k)

  module _ (b : is_begin r ≡ true) (fresh : begun r.first before ≡ false) where
    begun-itself : begun r.first (r ∷ before) ≡ true
    unfolding begun has
    begun-itself = simp (b, eq-eqb r.first r.first refl)

    begun-other : (e : ℕ) → (r.first ≡ e → ⊥) → begun e (r ∷ before) ≡ begun e before
    unfolding begun has
    begun-other e n = simp (b, ne_eqb r.first e n)

    -- a begin of an event above k
    tally-above : (k : ℕ) → k < r.first → tally k (r ∷ before) ≡ tally k before
    unfolding tally
    tally-above zero h = refl
    tally-above (suc k) h = simp (begun-other (suc k) (λ e. omega arith), tally-above k (omega arith))

    -- a begin of an event up to k
    tally-more : (k : ℕ) → 0 < r.first → r.first ≤ k → tally k (r ∷ before) ≡ tally k before + 1
    unfolding tally
    tally-more zero z h = absurd (omega arith)
    tally-more (suc k) z h = go (eq-or-lt_of_le h) (tally-more k z)
      where
        go : (r.first ≡ suc k) ⊎ (r.first < suc k) → (r.first ≤ k → tally k (r ∷ before) ≡ tally k before + 1) → tally (suc k) (r ∷ before) ≡ tally (suc k) before + 1
        go (inl e) f =
            let t = tally-above k (omega arith) in
            rw (← e, begun-itself, fresh) (omega arith)
        go (inr l) f =
            let t = f (omega arith) in
            rw (begun-other (suc k) (λ e. omega arith)) (omega arith)

tally-none : (k : ℕ) → tally k [] ≡ 0
unfolding tally begun has
tally-none zero = refl
tally-none (suc k) = rw (tally-none k)

pub event-range : {before : List Record} {r : Record} → Passes before r → (0 < r.first) × (r.first ≤ 1024)
unfolding numbered
event-range {r = r} p =
    let q = (and-eq-true_iff (leb 1 r.first) (leb r.first 1024)).0 (formed r p.well-formed).0 in
    (leb-true 1 r.first q.0, leb-true r.first 1024 q.1)

-- the first n records pass 4 to 8
module _ {tr : List Record} {n : ℕ} (a : AllPass tr n) where
  pub range : (i : ℕ) → i < n → (0 < (at tr i).first) × ((at tr i).first ≤ 1024)
  range i h = event-range (a.passes_at i h)

  counted : (i : ℕ) → i ≤ n → begins (past tr i) ≡ tally 1024 (past tr i)
  unfolding begins past
  counted zero h = sym (tally-none 1024)
  counted (suc i) h = go (is_begin (at tr i)) refl (counted i (omega arith))
    where
      go : (t : Bool) → is_begin (at tr i) ≡ t → begins (past tr i) ≡ tally 1024 (past tr i) → begins (past tr (suc i)) ≡ tally 1024 (past tr (suc i))
      go true e c =
          let q = range i h in
          let k : (at tr i).kind ≡ 1 = eqb-true (at tr i).kind 1 e in
          simp (e, c) (sym (tally-more (at tr i) (past tr i) e (start-fresh a i h (inl k)) 1024 q.0 q.1))
      go false e c = simp (e, c) (sym (tally-same (at tr i) (past tr i) e 1024))

  pub few-begins : begins (past tr n) ≤ 1024
  few-begins = rw (counted n (omega arith)) (tally-most 1024 (past tr n))

  -- where another event may begin there are at most 1,023
  pub room-for-one : (r : Record) → is_begin r ≡ true → begun r.first (past tr n) ≡ false → 0 < r.first → r.first ≤ 1024 → begins (past tr n) ≤ 1023
  room-for-one r b fresh z h =
      let c = counted n (omega arith) in
      let m = tally-more r (past tr n) b fresh 1024 z h in
      let k = tally-most 1024 (r ∷ past tr n) in
      omega arith

module _ {tr : List Record} (a : Acceptable tr) where
  pub few-events : begins (past tr (length tr)) ≤ 1024
  few-events = few-begins (all_pass a)
