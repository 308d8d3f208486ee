-- What a kind byte says, by its number. Assumes nothing.
use Prim.Native.Nat.{ℕ, ◌≤◌, ◌<◌}
use mathlib.Core.Path.{◌≡◌, refl}
use mathlib.Core.Logic.{◌⊎◌, inl, inr}
use mathlib.Core.Bool.{true, false, ◌&&◌}
use lib.Dec.{leb}
use borrow.Author.Tests.{le-leb, lt-leb}
use native.Mathlib.Omega.{arith}
use Rattle.records.specs.declared.kinds.Kind.{Kind}
use Rattle.records.specs.declared.kinds.Kind.TheVariants.{Begin, End, Fork, Join, Read, Write, Send, Other}
use Rattle.records.specs.Kinds.{Says}

-- a byte that says none of the six kinds and no send
no_six : (b : ℕ) → (b ≡ 0) ⊎ ((6 < b) × ((b < 16) ⊎ (19 < b))) → 1 ≤ b → b ≤ 6 → ⊥
no_six b (inl e) h k = omega arith
no_six b (inr p) h k = omega (arith, p.0)

pub says_begin : (b : ℕ) (k : Kind) → Says b k → b ≡ 1 → k ≡ Begin
says_begin b Begin s e = refl
says_begin b End s e = absurd (omega arith)
says_begin b Fork s e = absurd (omega arith)
says_begin b Join s e = absurd (omega arith)
says_begin b Read s e = absurd (omega arith)
says_begin b Write s e = absurd (omega arith)
says_begin b (Send l) s e = absurd (omega (arith, s.1))
says_begin b (Other o) s e = absurd (no_six b s.1 (omega arith) (omega arith))

pub says_fork : (b : ℕ) (k : Kind) → Says b k → b ≡ 3 → k ≡ Fork
says_fork b Begin s e = absurd (omega arith)
says_fork b End s e = absurd (omega arith)
says_fork b Fork s e = refl
says_fork b Join s e = absurd (omega arith)
says_fork b Read s e = absurd (omega arith)
says_fork b Write s e = absurd (omega arith)
says_fork b (Send l) s e = absurd (omega (arith, s.1))
says_fork b (Other o) s e = absurd (no_six b s.1 (omega arith) (omega arith))

pub says_join : (b : ℕ) (k : Kind) → Says b k → b ≡ 4 → k ≡ Join
says_join b Begin s e = absurd (omega arith)
says_join b End s e = absurd (omega arith)
says_join b Fork s e = absurd (omega arith)
says_join b Join s e = refl
says_join b Read s e = absurd (omega arith)
says_join b Write s e = absurd (omega arith)
says_join b (Send l) s e = absurd (omega (arith, s.1))
says_join b (Other o) s e = absurd (no_six b s.1 (omega arith) (omega arith))

-- a send or none, as the table of kinds tests it
pub a_send : (b l : ℕ) → Says b (Send l) → (leb 16 b && leb b 19) ≡ true
a_send b l s = let h : 16 ≤ b = omega (arith, s.1) in let k : b ≤ 19 = omega (arith, s.0, s.1) in rw (le-leb 16 b h, le-leb b 19 k) refl

pub not_send : (b : ℕ) (k : Kind) → Says b k → ((l : ℕ) → k ≡ Send l → ⊥) → (leb 16 b && leb b 19) ≡ false
not_send b Begin s n = rw s refl
not_send b End s n = rw s refl
not_send b Fork s n = rw s refl
not_send b Join s n = rw s refl
not_send b Read s n = rw s refl
not_send b Write s n = rw s refl
not_send b (Send l) s n = absurd (n l refl)
not_send b (Other o) (e, inl z) n = rw z refl
not_send b (Other o) (e, inr (h, inl m)) n = rw (lt-leb 16 b m) refl
not_send b (Other o) (e, inr (h, inr m)) n = let l : 16 ≤ b = omega arith in rw (le-leb 16 b l, lt-leb b 19 m) refl
