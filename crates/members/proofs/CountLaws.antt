-- The ones of the bytes are as many as the members. Assumes nothing.
use Prim.Native.Nat.{ℕ, zero, suc, ◌+◌, ◌*◌, ◌/◌, ◌%◌, ◌^◌, ◌-◌, ◌≤◌, ◌<◌, min}
use mathlib.Core.Path.{◌≡◌, refl, sym, ap, ap₂, ◌∙◌, subst}
use mathlib.Core.Logic.{◌⊎◌, inl, inr}
use mathlib.Core.Bool.{Bool, true, false}
use mathlib.Core.List.{List}
use native.Mathlib.Nat.{add-zero, add-suc, add_assoc, mod-lt, div-one}
use native.Mathlib.Numerals.{add-one}
use native.Mathlib.Omega.{arith}
use lib.Count as Count
use lib.Dec.{T, eqb, lit<}
use lib.ListN.{length, get_or, length-append, get_or-eq_default}
use lib.Pow.{shr-shr, shr_lt}
use Rattle.slices.proofs.Tests.{decide-lt}
use Rattle.coverage.specs.Below.{upto, only}
use Rattle.coverage.proofs.Lists.{upto-ext, upto-same}
use Rattle.bits.specs.Words.{bit_at}
use Rattle.members.specs.Members.{member, bytes_for, ones, counted}
use Rattle.members.specs.Laws.{Bytes, CountsMembers}
use Rattle.members.proofs.SetLaws.{rounds-up}

-- how many numbers below a bound pass a test
abbrev many : ℕ → (ℕ → Bool) → ℕ
many m p = length (upto m p)

only-many : (b : Bool) (i j : ℕ) → length (only b i) ≡ length (only b j)
only-many true i j = refl
only-many false i j = refl

many-suc : (m : ℕ) (p : ℕ → Bool) → many (suc m) p ≡ many m p + length (only (p m) m)
unfolding upto
many-suc m p = length-append (upto m p) (only (p m) m)

many-add : (a k : ℕ) (p : ℕ → Bool) → many (a + k) p ≡ many a p + many k (λ j. p (a + j))
unfolding upto
many-add a zero p = rw (add-zero a) (sym (add-zero (many a p)))
many-add a (suc k) p =
    let q : ℕ → Bool = λ j. p (a + j) in
    ap (λ (x : ℕ). many x p) (add-suc a k) ∙ many-suc (a + k) p ∙ ap₂ ◌+◌ (many-add a k p) (only-many (p (a + k)) (a + k) k)
    ∙ add_assoc (many a p) (many k q) (length (only (p (a + k)) k)) ∙ ap (λ (x : ℕ). many a p + x) (sym (many-suc k q))

-- one byte: as many ones as bits set
low_bit : (x : ℕ) → x < 2 → x ≡ length (only (eqb x 1) 0)
low_bit zero h = refl
low_bit (suc zero) h = refl
low_bit (suc (suc x)) h = absurd (omega arith)

first_bit : (b : ℕ) → b % 2 ≡ many 1 (bit_at b)
unfolding upto bit_at
first_bit b = low_bit (b % 2) (mod-lt b (lit< tt)) ∙ ap (λ (x : ℕ). length (only (eqb (x % 2) 1) 0)) (sym (div-one b))

next_bit : (b j : ℕ) → bit_at b (1 + j) ≡ bit_at (b / 2) j
unfolding bit_at
next_bit b j = ap (λ (x : ℕ). eqb (x % 2) 1) (sym (shr-shr b 1 j))

pub in-byte : (k b : ℕ) → b < 2 ^ k → Count.ones b ≡ many k (bit_at b)
unfolding upto Count.ones
in-byte zero b h = let e : b ≡ 0 = omega arith in rw e refl
in-byte (suc k) b h =
    let e : suc k ≡ 1 + k = omega arith in
    let l : b < 2 ^ (k + 1) = subst (λ (x : ℕ). b < 2 ^ x) (omega arith) h in
    Count.ones_step b ∙ ap₂ ◌+◌ (first_bit b) (in-byte k (b / 2) (shr_lt k 1 l))
    ∙ ap (λ (x : ℕ). many 1 (bit_at b) + x) (ap length (sym (upto-ext k (λ j. bit_at b (1 + j)) (bit_at (b / 2)) (λ j i. next_bit b j))))
    ∙ sym (ap (λ (x : ℕ). many x (bit_at b)) e ∙ many-add 1 k (bit_at b))

-- byte n has the bits of event actions 8 × n to 8 × n + 7
of-byte : (w : List ℕ) (n j : ℕ) → j < 8 → member w (8 * n + j) ≡ bit_at (get_or w n 0) j
unfolding member
of-byte w n j h =
    let d : (8 * n + j) / 8 ≡ n = omega arith in
    let r : (8 * n + j) % 8 ≡ j = omega arith in
    rw (d, r) refl

in_bytes : (w : List ℕ) (n : ℕ) → Bytes w → ones w n ≡ length (upto (8 * n) (member w))
unfolding ones upto
in_bytes w zero f = refl
in_bytes w (suc n) f =
    let e : 8 * suc n ≡ 8 * n + 8 = omega arith in
    ap₂ ◌+◌ (in_bytes w n f)
    (in-byte 8 (get_or w n 0) (f n) ∙ ap length (sym (upto-ext 8 (λ j. member w (8 * n + j)) (bit_at (get_or w n 0)) (of-byte w n))))
    ∙ sym (ap (λ (x : ℕ). many x (member w)) e ∙ many-add (8 * n) 8 (member w))

all : (w : List ℕ) (n m : ℕ) → Bytes w → bytes_for m ≤ n → ((t : ℕ) → T (member w t) → t < m) → ones w n ≡ length (upto m (member w))
all w n m f h g =
    let e = rounds-up.enough m in
    let l : m ≤ 8 * n = omega arith in
    in_bytes w n f ∙ ap length (sym (upto-same m (8 * n) (member w) l (λ t i k. g t k)))

pub counts-members : CountsMembers
counts-members = record { in_bytes = in_bytes; all = all }

-- past the end there are none
ones-past : (w : List ℕ) (k : ℕ) → ones w (length w + k) ≡ ones w (length w)
unfolding ones Count.ones
ones-past w zero = ap (ones w) (add-zero (length w))
ones-past w (suc k) =
    let z = get_or-eq_default w 0 {n = length w + k} (omega arith) in
    rw (add-suc (length w) k) (ap₂ ◌+◌ (ones-past w k) (ap Count.ones z) ∙ add-zero (ones w (length w)))

-- one byte more
pub ones-next : (w : List ℕ) (i : ℕ) → ones w (i + 1) ≡ ones w i + Count.ones (get_or w i 0)
unfolding ones
ones-next w i = rw (add-one i) refl

-- as many of the bytes as are there
pub ones-there : (w : List ℕ) (n i : ℕ) → i ≡ min (counted n) (length w) → ones w i ≡ ones w (counted n)
ones-there w n i e = go (decide-lt (length w) (counted n))
  where
    go : (length w < counted n) ⊎ (counted n ≤ length w) → ones w i ≡ ones w (counted n)
    go (inl l) =
        let a : i ≡ length w = omega arith in
        let k : length w + (counted n - length w) ≡ counted n = omega arith in
        rw a (sym (ap (ones w) (sym k) ∙ ones-past w (counted n - length w)))
    go (inr l) = let a : i ≡ counted n = omega arith in ap (ones w) a
