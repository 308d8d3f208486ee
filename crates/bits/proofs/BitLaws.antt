-- Bits of words. Assumes nothing.
use Prim.Native.Nat.{ℕ, zero, suc, ◌+◌, ◌-◌, ◌/◌, ◌%◌, ◌^◌, ◌≤◌, ◌<◌, max}
use mathlib.Core.Path.{◌≡◌, refl, sym, ap, ap₂, ◌∙◌}
use mathlib.Core.Logic.{◌≢◌, ◌⊎◌, inl, inr}
use mathlib.Core.Bool.{false, ◌||◌}
use mathlib.Core.List.{List}
use native.Mathlib.Omega.{arith}
use native.Mathlib.Nat.{mod-lt, pow-suc, one-mul, div-eq_of_lt, mul-mod_left}
use borrow.Author.Tests.{eq-eqb, ne_eqb}
use lib.Arith.{digits_mod}
use lib.Bits.{bit_or, or_shr, or_step}
use lib.Dec.{eqb, lit<}
use lib.ListN.{length, get_or}
use lib.Pow.{pow-add, shl-shr, pow_pos, pow-lt}
use lib.Seq.{get_or-set_same, get_or-set_other}
use Rattle.bits.specs.Words.{bit_at, or_at, or_from, or_others}
use Rattle.bits.proofs.WordLaws.{or-at-length}
use Rattle.bits.proofs.TableLaws.{lt-or-ge}

two-bits : (x y : ℕ) → x < 2 → y < 2 → eqb (max x y) 1 ≡ (eqb x 1 || eqb y 1)
two-bits zero zero h k = refl
two-bits zero (suc zero) h k = refl
two-bits zero (suc (suc y)) h k = absurd (omega arith)
two-bits (suc zero) zero h k = refl
two-bits (suc zero) (suc zero) h k = refl
two-bits (suc zero) (suc (suc y)) h k = absurd (omega arith)
two-bits (suc (suc x)) y h k = absurd (omega arith)

max-two : (x y : ℕ) → x < 2 → y < 2 → max x y < 2
max-two x y h k = omega arith

or-low : (c d : ℕ) → bit_or c d % 2 ≡ max (c % 2) (d % 2)
or-low c d =
    ap (λ (x : ℕ). x % 2) (or_step c d)
    ∙ digits_mod (bit_or (c / 2) (d / 2)) {m = 2} (max-two (c % 2) (d % 2) (mod-lt c (lit< tt)) (mod-lt d (lit< tt)))

-- a bit of two words taken together
pub or-bit : (a b k : ℕ) → bit_at (bit_or a b) k ≡ (bit_at a k || bit_at b k)
unfolding bit_at
or-bit a b k =
    ap (λ (x : ℕ). eqb (x % 2) 1) (or_shr a b k)
    ∙ ap (λ (x : ℕ). eqb x 1) (or-low (a / 2 ^ k) (b / 2 ^ k))
    ∙ two-bits (a / 2 ^ k % 2) (b / 2 ^ k % 2) (mod-lt (a / 2 ^ k) (lit< tt)) (mod-lt (b / 2 ^ k) (lit< tt))

-- a word without bits
pub zero_bit : (k : ℕ) → bit_at 0 k ≡ false
unfolding bit_at
zero_bit k = ap (λ (x : ℕ). eqb (x % 2) 1) (div-eq_of_lt (pow_pos k))

-- a word with one bit
one_same : (k : ℕ) → 2 ^ k / 2 ^ k ≡ 1
one_same k = ap (λ (x : ℕ). x / 2 ^ k) (sym (one-mul (2 ^ k))) ∙ shl-shr 1 k

one-above : (d k : ℕ) → 2 ^ (suc d + k) / 2 ^ k % 2 ≡ 0
one-above d k =
    ap (λ (x : ℕ). x / 2 ^ k % 2) (pow-add 2 (suc d) k)
    ∙ ap (λ (x : ℕ). x % 2) (shl-shr (2 ^ suc d) k)
    ∙ ap (λ (x : ℕ). x % 2) (pow-suc 2 d)
    ∙ mul-mod_left (2 ^ d) 2

pub one_bit : (m k : ℕ) → bit_at (2 ^ m) k ≡ eqb k m
unfolding bit_at
one_bit m k = go (lt-or-ge k m) (lt-or-ge m k)
  where
    go : (k < m) ⊎ (m ≤ k) → (m < k) ⊎ (k ≤ m) → eqb (2 ^ m / 2 ^ k % 2) 1 ≡ eqb k m
    go (inl l) _ =
        let e : suc (m - suc k) + k ≡ m = omega arith in
        let z : 2 ^ m / 2 ^ k % 2 ≡ 0 = ap (λ (x : ℕ). 2 ^ x / 2 ^ k % 2) (sym e) ∙ one-above (m - suc k) k in
        let d : k ≡ m → ⊥ = λ q. omega (arith, q) in
        rw (z, ne_eqb k m d)
    go (inr l) (inl h) =
        let z : 2 ^ m / 2 ^ k ≡ 0 = div-eq_of_lt (pow-lt h) in
        let d : k ≡ m → ⊥ = λ q. omega (arith, q) in
        rw (z, ne_eqb k m d)
    go (inr l) (inr h) =
        let e : k ≡ m = omega arith in
        let z : 2 ^ m / 2 ^ k ≡ 1 = ap (λ (x : ℕ). 2 ^ x / 2 ^ k) (sym e) ∙ one_same k in
        rw (z, eq-eqb k m e)

-- word by word
module _ (others : List ℕ) (a b j : ℕ) where
  at_same : (c : ℕ) (ws : List ℕ) → j ≡ a + c → j < length ws → get_or (or_at others a b c ws) j 0 ≡ bit_or (get_or ws j 0) (get_or others (b + c) 0)
  unfolding or_at
  at_same c ws e h = rw e (get_or-set_same ws (a + c) (bit_or (get_or ws (a + c) 0) (get_or others (b + c) 0)) 0 (rw (← e) h))

  at_other : (c : ℕ) (ws : List ℕ) → j ≢ a + c → get_or (or_at others a b c ws) j 0 ≡ get_or ws j 0
  unfolding or_at
  at_other c ws d = get_or-set_other ws (a + c) j (bit_or (get_or ws (a + c) 0) (get_or others (b + c) 0)) 0 d

abbrev pub Outside : ℕ → ℕ → ℕ → Type 0
Outside from to j = (j < from) ⊎ (to ≤ j)

not_at : (a c k j : ℕ) → Outside (a + c) (a + c + suc k) j → j ≢ a + c
not_at a c k j (inl h) e = omega (arith, e)
not_at a c k j (inr h) e = omega (arith, e)

still : (a c k j : ℕ) → Outside (a + c) (a + c + suc k) j → Outside (a + suc c) (a + suc c + k) j
still a c k j (inl h) = inl (omega arith)
still a c k j (inr h) = inr (omega arith)

pub from-outside : (a b j k c : ℕ) (ws : List ℕ) → Outside (a + c) (a + c + k) j → get_or (or_from a b c k ws) j 0 ≡ get_or ws j 0
unfolding or_from
from-outside a b j zero c ws h = refl
from-outside a b j (suc k) c ws h = from-outside a b j k (suc c) (or_at ws a b c ws) (still a c k j h) ∙ at_other ws a b j c ws (not_at a c k j h)

pub others-outside : (others : List ℕ) (a b j k c : ℕ) (ws : List ℕ) → Outside (a + c) (a + c + k) j → get_or (or_others others a b c k ws) j 0 ≡ get_or ws j 0
unfolding or_others
others-outside others a b j zero c ws h = refl
others-outside others a b j (suc k) c ws h =
    others-outside others a b j k (suc c) (or_at others a b c ws) (still a c k j h) ∙ at_other others a b j c ws (not_at a c k j h)

pub from-inside : (a b d k c : ℕ) (ws : List ℕ) → ((x y : ℕ) → x < c + k → y < c + k → b + x ≢ a + y) → c ≤ d → d < c + k → a + (c + k) ≤ length ws
    → get_or (or_from a b c k ws) (a + d) 0 ≡ bit_or (get_or ws (a + d) 0) (get_or ws (b + d) 0)
unfolding or_from
from-inside a b d zero c ws f l h n = absurd (omega arith)
from-inside a b d (suc k) c ws f l h n = go (lt-or-ge c d) (from-inside a b d k (suc c) (or_at ws a b c ws))
  where
    ws' : List ℕ
    ws' = or_at ws a b c ws

    go : (c < d) ⊎ (d ≤ c)
        → (((x y : ℕ) → x < suc c + k → y < suc c + k → b + x ≢ a + y) → suc c ≤ d → d < suc c + k → a + (suc c + k) ≤ length ws'
        → get_or (or_from a b (suc c) k ws') (a + d) 0 ≡ bit_or (get_or ws' (a + d) 0) (get_or ws' (b + d) 0))
        → get_or (or_from a b (suc c) k ws') (a + d) 0 ≡ bit_or (get_or ws (a + d) 0) (get_or ws (b + d) 0)
    go (inr m) g =
        let e : d ≡ c = omega arith in
        from-outside a b (a + d) k (suc c) ws' (inl (omega arith)) ∙ at_same ws a b (a + d) c ws (ap (λ (x : ℕ). a + x) e) (omega arith)
        ∙ ap (λ (x : ℕ). bit_or (get_or ws (a + d) 0) (get_or ws (b + x) 0)) (sym e)
    go (inl m) g =
        let q = or-at-length ws a b c ws in
        let p : a + d ≡ a + c → ⊥ = λ z. omega (arith, z) in
        g (λ x y s t. f x y (omega arith) (omega arith)) m (omega arith) (omega arith)
        ∙ ap₂ bit_or (at_other ws a b (a + d) c ws p) (at_other ws a b (b + d) c ws (f d c (omega arith) (omega arith)))

pub others-inside : (others : List ℕ) (a b d k c : ℕ) (ws : List ℕ) → c ≤ d → d < c + k → a + (c + k) ≤ length ws
    → get_or (or_others others a b c k ws) (a + d) 0 ≡ bit_or (get_or ws (a + d) 0) (get_or others (b + d) 0)
unfolding or_others
others-inside others a b d zero c ws l h n = absurd (omega arith)
others-inside others a b d (suc k) c ws l h n = go (lt-or-ge c d) (others-inside others a b d k (suc c) (or_at others a b c ws))
  where
    ws' : List ℕ
    ws' = or_at others a b c ws

    go : (c < d) ⊎ (d ≤ c)
        → (suc c ≤ d → d < suc c + k → a + (suc c + k) ≤ length ws'
        → get_or (or_others others a b (suc c) k ws') (a + d) 0 ≡ bit_or (get_or ws' (a + d) 0) (get_or others (b + d) 0))
        → get_or (or_others others a b (suc c) k ws') (a + d) 0 ≡ bit_or (get_or ws (a + d) 0) (get_or others (b + d) 0)
    go (inr m) g =
        let e : d ≡ c = omega arith in
        others-outside others a b (a + d) k (suc c) ws' (inl (omega arith)) ∙ at_same others a b (a + d) c ws (ap (λ (x : ℕ). a + x) e) (omega arith)
        ∙ ap (λ (x : ℕ). bit_or (get_or ws (a + d) 0) (get_or others (b + x) 0)) (sym e)
    go (inl m) g =
        let q = or-at-length others a b c ws in
        let p : a + d ≡ a + c → ⊥ = λ z. omega (arith, z) in
        g m (omega arith) (omega arith) ∙ ap (λ (x : ℕ). bit_or x (get_or others (b + d) 0)) (at_other others a b (a + d) c ws p)
