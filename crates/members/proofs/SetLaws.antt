-- The laws of a set in bytes, and of the bytes that it takes. Assumes nothing.
use Prim.Native.Nat.{ℕ, ◌+◌, ◌*◌, ◌/◌, ◌%◌, ◌^◌, ◌≤◌, ◌<◌}
use mathlib.Core.Path.{◌≡◌, refl, ap, ◌∙◌}
use mathlib.Core.Logic.{◌≢◌, ◌⊎◌, inl, inr}
use mathlib.Core.Bool.{Bool, true, false, ◌||◌}
use mathlib.Core.List.{List}
use native.Mathlib.Nat.{mod-lt}
use native.Mathlib.Omega.{arith}
use borrow.Author.Tests.{eq-eqb, ne_eqb}
use lib.Bits.{bit_or, or_lt}
use lib.Dec.{eqb, lit<}
use lib.ListN.{length, get_or, set, length-set, get_or-eq_default}
use lib.Pow.{pow-lt}
use lib.Seq.{get_or-set_same, get_or-set_other, set_out}
use Rattle.slices.specs.Slices.{zeros}
use Rattle.slices.proofs.Cleared.{zeros-at}
use Rattle.slices.proofs.Tests.{decide_eq, decide-lt}
use Rattle.bits.specs.Words.{bit_at, with_bit}
use Rattle.bits.proofs.BitLaws.{or-bit, one_bit, zero_bit}
use Rattle.members.specs.Members.{member, with_member, bytes_for}
use Rattle.members.specs.Laws.{Bytes, IsSet, RoundsUp}

-- a bit of a byte in which bit k was set
with-bit : (b k j : ℕ) → bit_at (with_bit b k) j ≡ (bit_at b j || eqb j k)
unfolding with_bit
with-bit b k j = or-bit b (2 ^ k) j ∙ ap (λ x. bit_at b j || x) (one_bit k j)

or-true : (a b : Bool) → b ≡ true → (a || b) ≡ true
or-true true b e = refl
or-true false b e = e

or-false : (a b : Bool) → b ≡ false → (a || b) ≡ a
or-false true b e = refl
or-false false b e = e

module _ (w : List ℕ) (t : ℕ) where
  pub entered : t / 8 < length w → member (with_member t w) t ≡ true
  unfolding member with_member
  entered h =
      let b = get_or w (t / 8) 0 in
      ap (λ x. bit_at x (t % 8)) (get_or-set_same w (t / 8) (with_bit b (t % 8)) 0 h)
      ∙ with-bit b (t % 8) (t % 8) ∙ or-true (bit_at b (t % 8)) (eqb (t % 8) (t % 8)) (eq-eqb (t % 8) (t % 8) refl)

  pub past : length w ≤ t / 8 → member w t ≡ false
  unfolding member
  past h = ap (λ x. bit_at x (t % 8)) (get_or-eq_default w 0 {n = t / 8} h) ∙ zero_bit (t % 8)

  pub long : length (with_member t w) ≡ length w
  unfolding with_member
  long = length-set w (t / 8) (with_bit (get_or w (t / 8) 0) (t % 8))

  pub others : (u : ℕ) → u ≢ t → member (with_member t w) u ≡ member w u
  unfolding member with_member
  others u n = go (decide_eq (u / 8) (t / 8)) (decide-lt (t / 8) (length w))
    where
      b : ℕ
      b = get_or w (t / 8) 0

      w' : List ℕ
      w' = set w (t / 8) (with_bit b (t % 8))

      go : (u / 8 ≡ t / 8) ⊎ (u / 8 ≢ t / 8) → (t / 8 < length w) ⊎ (length w ≤ t / 8)
          → bit_at (get_or w' (u / 8) 0) (u % 8) ≡ bit_at (get_or w (u / 8) 0) (u % 8)
      go (inr d) _ = ap (λ x. bit_at x (u % 8)) (get_or-set_other w (t / 8) (u / 8) (with_bit b (t % 8)) 0 d)
      go (inl e) (inr h) = ap (λ x. bit_at (get_or x (u / 8) 0) (u % 8)) (set_out w (t / 8) (with_bit b (t % 8)) h)
      go (inl e) (inl h) =
          let d : u % 8 ≡ t % 8 → ⊥ = λ q. n (omega (arith, e, q)) in
          rw e (ap (λ x. bit_at x (u % 8)) (get_or-set_same w (t / 8) (with_bit b (t % 8)) 0 h)
          ∙ with-bit b (t % 8) (u % 8) ∙ or-false (bit_at b (u % 8)) (eqb (u % 8) (t % 8)) (ne_eqb (u % 8) (t % 8) d))

  pub bytes : Bytes w → Bytes (with_member t w)
  unfolding with_member with_bit
  bytes f i = go (decide_eq i (t / 8)) (decide-lt (t / 8) (length w))
    where
      b : ℕ
      b = bit_or (get_or w (t / 8) 0) (2 ^ (t % 8))

      small : b < 256
      small = or_lt 8 (get_or w (t / 8) 0) (2 ^ (t % 8)) (f (t / 8)) (pow-lt (mod-lt t (lit< tt)))

      go : (i ≡ t / 8) ⊎ (i ≢ t / 8) → (t / 8 < length w) ⊎ (length w ≤ t / 8) → get_or (set w (t / 8) b) i 0 < 256
      go (inr d) _ = rw (get_or-set_other w (t / 8) i b 0 d) (f i)
      go (inl e) (inr h) = rw (set_out w (t / 8) b h) (f i)
      go (inl e) (inl h) = rw (e, get_or-set_same w (t / 8) b 0 h) small

none : (n t : ℕ) → member (zeros n) t ≡ false
unfolding member
none n t = rw (zeros-at n (t / 8)) (zero_bit (t % 8))

pub is_set : IsSet
is_set = record { entered = entered; others = others; none = none; past = past; long = long; bytes = bytes }

-- rounded up
pub whole : (events : ℕ) → events % 8 ≡ 0 → bytes_for events ≡ events / 8
unfolding bytes_for
whole events e = rw (eq-eqb _ _ e) (omega arith)

pub part : (events : ℕ) → events % 8 ≢ 0 → bytes_for events ≡ events / 8 + 1
unfolding bytes_for
part events d = rw (ne_eqb _ _ d) refl

pub rounds-up : RoundsUp
rounds-up = record { enough = λ e. up e (decide_eq (e % 8) 0); fewest = λ e n h. down e n h (decide_eq (e % 8) 0) }
  where
    up : (e : ℕ) → (e % 8 ≡ 0) ⊎ (e % 8 ≢ 0) → e ≤ 8 * bytes_for e
    up e (inl z) = rw (whole e z) (omega arith)
    up e (inr d) = rw (part e d) (omega arith)

    down : (e n : ℕ) → e ≤ 8 * n → (e % 8 ≡ 0) ⊎ (e % 8 ≢ 0) → bytes_for e ≤ n
    down e n h (inl z) = rw (whole e z) (omega arith)
    down e n h (inr d) = rw (part e d) (omega (arith, d))
