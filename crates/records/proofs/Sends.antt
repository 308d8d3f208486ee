-- A send is among the records where one of them, by position, is a send. Assumes nothing.
use Prim.Native.Nat.{ℕ, zero, suc, ◌<◌}
use mathlib.Core.Path.{◌≡◌, refl}
use mathlib.Core.Bool.{Bool, true, false, ◌||◌}
use mathlib.Core.List.{List, [], ◌∷◌}
use native.Mathlib.Omega.{arith}
use native.Mathlib.Decide.{ℕ_discrete}
use lib.Dec.{T}
use lib.ListN.{length}
use Rattle.records.specs.declared.Record.{Record}
use Rattle.records.specs.Records.{at, past}
use Rattle.records.specs.Kinds.{is_send, has_send}

neither : (a b : Bool) → (a || b) ≡ false → (a ≡ false) × (b ≡ false)
neither false b h = (refl, h)
neither true b h = let z : ◌≡◌ {A = ℕ} 0 1 = cc in absurd (omega arith)

not_so : (b : Bool) → (T b → ⊥) → b ≡ false
not_so false h = refl
not_so true h = absurd (h tt)

pub no_send : (tr : List Record) → has_send tr ≡ false → (i : ℕ) → i < length tr → T (is_send (at tr i)) → ⊥
unfolding has_send
no_send [] e i h s = absurd (omega arith)
no_send (r ∷ rest) e zero h s = rw (neither (is_send r) (has_send rest) e).0 at s
no_send (r ∷ rest) e (suc i) h s = no_send rest (neither (is_send r) (has_send rest) e).1 i (omega arith) s

pub none-sent : (tr : List Record) → ((i : ℕ) → i < length tr → T (is_send (at tr i)) → ⊥) → has_send tr ≡ false
unfolding has_send
none-sent [] f = refl
none-sent (r ∷ rest) f = rw (not_so (is_send r) (f 0 (omega arith)), none-sent rest (λ i h. f (suc i) (omega arith)))

-- the same of the records before position n, the latest first
past-none : (tr : List Record) (n : ℕ) → ((i : ℕ) → i < n → T (is_send (at tr i)) → ⊥) → has_send (past tr n) ≡ false
unfolding has_send past
past-none tr zero f = refl
past-none tr (suc n) f = rw (not_so (is_send (at tr n)) (f n (omega arith)), past-none tr n (λ i h. f i (omega arith)))

past-clear : (tr : List Record) (n : ℕ) → has_send (past tr n) ≡ false → (i : ℕ) → i < n → T (is_send (at tr i)) → ⊥
unfolding has_send past
past-clear tr zero e i h s = absurd (omega arith)
past-clear tr (suc n) e i h s =
    let (x, y) = neither (is_send (at tr n)) (has_send (past tr n)) e in
    go (ℕ_discrete i n) x (past-clear tr n y i)
  where
    go : Dec (i ≡ n) → is_send (at tr n) ≡ false → (i < n → T (is_send (at tr i)) → ⊥) → ⊥
    go (yes q) x f = rw (q, x) at s
    go (no d) x f = f (omega arith) s

pub past-sends : (tr : List Record) → has_send (past tr (length tr)) ≡ has_send tr
past-sends tr =
    same (has_send (past tr (length tr))) (has_send tr) (λ e. none-sent tr (past-clear tr (length tr) e)) (λ e. past-none tr (length tr) (no_send tr e))
  where
    same : (a b : Bool) → (a ≡ false → b ≡ false) → (b ≡ false → a ≡ false) → a ≡ b
    same true true f g = refl
    same true false f g = g refl
    same false true f g = let z = f refl in let y : ◌≡◌ {A = ℕ} 0 1 = cc in absurd (omega arith)
    same false false f g = refl
