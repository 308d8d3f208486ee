-- The rule for one record, 31 apart: refusals 4 to 6, and then 7 and 8.
-- Assumes nothing.
use Prim.Native.Nat.{ℕ}
use mathlib.Core.Path.{◌≡◌, refl, ◌∙◌}
use mathlib.Core.Bool.{Bool, true, false, cond, not, ◌&&◌, and-false}
use native.Mathlib.Omega.{arith}
use lib.Dec.{eqb}
use Rattle.records.specs.declared.Record.{Record}
use Rattle.records.specs.Records.{is_begin}
use Rattle.trace.specs.Place.{place}
use Rattle.trace.specs.Rule.{well_formed, misplaced, again, early, judge}
use Rattle.trace.specs.Reply.{refused, gives, or_else}
use Rattle.trace.proofs.ReplyLaws.{stops}

abbrev pub place_fault : ℕ → ℕ → Record → ℕ
place_fault s e r = cond (eqb (place s r.kind) 3) 4 (cond (not (well_formed r)) 5 (cond (misplaced s e r) 6 0))

abbrev pub order_fault : Record → Bool → Bool → Bool → ℕ
order_fault r a b c = cond (again r a b) 7 (cond (early r c) 8 0)

-- without 31 the rule goes on from 7 to 8
plain-order : (r : Record) (a b c : Bool) → order_fault r a b c ≡ cond (again r a b) 7 (cond (is_begin r && false) 31 (cond (early r c) 8 0))
plain-order r a b c = simp (and-false (is_begin r))

stays : (x y z : Bool) (t n : ℕ) → n ≡ cond x 4 (cond y 5 (cond z 6 0)) → (n ≡ 0 → ⊥) → n ≡ cond x 4 (cond y 5 (cond z 6 t))
stays true y z t n e h = e
stays false true z t n e h = e
stays false false true t n e h = e
stays false false false t n e h = absurd (h e)

goes_on : (x y z : Bool) (t n : ℕ) → n ≡ cond x 4 (cond y 5 (cond z 6 0)) → n ≡ 0 → t ≡ cond x 4 (cond y 5 (cond z 6 t))
goes_on true y z t n e h = absurd (omega arith)
goes_on false true z t n e h = absurd (omega arith)
goes_on false false true t n e h = absurd (omega arith)
goes_on false false false t n e h = refl

module _ (s o : ℕ) (r : Record) (a b c : Bool) {n : ℕ} (e : n ≡ place_fault s o r) where
  -- the first fault is the record's
  pub by_place : (n ≡ 0 → ⊥) → n ≡ judge s o r a b c false
  unfolding judge
  by_place h = stays (eqb (place s r.kind) 3) (not (well_formed r)) (misplaced s o r) _ n e h

  -- where there is none it is the second
  pub by_order : n ≡ 0 → {m : ℕ} → m ≡ order_fault r a b c → m ≡ judge s o r a b c false
  unfolding judge
  by_order h q = q ∙ plain-order r a b c ∙ goes_on (eqb (place s r.kind) 3) (not (well_formed r)) (misplaced s o r) _ n e h

-- the answer of a fault, and of none
pub at-fault : (n : ℕ) {j : ℕ} (op next : ℕ) → n ≡ j → (n ≡ 0 → ⊥) → refused n op ≡ or_else j op (gives next)
at-fault n op next e h = rw (← e) (stops n op (gives next) h)

pub no-fault : {n j next after : ℕ} (op : ℕ) → n ≡ j → n ≡ 0 → next ≡ after → gives next ≡ or_else j op (gives after)
unfolding or_else
no-fault op e z q = rw (← e, z, q)
