-- The bytes of a sequence of records, and the records of bytes, undo each other.
-- Assumes nothing.
use Prim.Native.Nat.{ℕ, zero, suc, ◌+◌, ◌*◌, ◌/◌, ◌<◌, ◌≤◌}
use mathlib.Core.Path.{◌≡◌, refl, ap₂, ◌∙◌}
use mathlib.Core.Bool.{Bool, true, false, cond}
use mathlib.Core.List.{List, [], ◌∷◌, ◌++◌}
use native.Mathlib.Omega.{arith}
use lib.ListN.{length, get_or}
use Rattle.records.specs.declared.Record.{Record}
use Rattle.records.specs.Bytes.{record_at, records_from, decode}
use Rattle.records.specs.Records.{at, is_begin}
use Rattle.records.specs.Records.{begins as begin-count}
use Rattle.records.specs.Encoding.{Bytes, low, high, encode}

-- fields that fit their bytes
pub record Narrow (r : Record) : Type 0 where
  pub kind_fits : r.kind < 256
  pub first_fits : r.first < 65536
  pub second_fits : r.second < 65536

abbrev pub AllNarrow : List Record → Type 0
AllNarrow tr = (i : ℕ) → i < length tr → Narrow (at tr i)

pub encode-length : (tr : List Record) → length (encode tr) ≡ 5 * length tr
unfolding encode
encode-length [] = refl
encode-length (r ∷ rest) = let e = encode-length rest in omega arith

pub encode-append : (xs ys : List Record) → encode (xs ++ ys) ≡ encode xs ++ encode ys
unfolding encode
encode-append [] ys = refl
encode-append (r ∷ xs) ys = rw (encode-append xs ys)

-- the first record of some bytes, and the others
module _ (k a b c d : ℕ) (xs : List ℕ) where
  abbrev five : List ℕ
  five = k ∷ a ∷ b ∷ c ∷ d ∷ xs

  later : (m j : ℕ) → m ≡ suc (suc (suc (suc (suc j)))) → get_or five m 0 ≡ get_or xs j 0
  later m j e = rw e

  record-later : (i : ℕ) → record_at five (5 * suc i) ≡ record_at xs (5 * i)
  unfolding record_at
  record-later i =
      let p0 = later (5 * suc i) (5 * i) (omega arith) in
      let p1 = later (5 * suc i + 1) (5 * i + 1) (omega arith) in
      let p2 = later (5 * suc i + 1 + 1) (5 * i + 1 + 1) (omega arith) in
      let p3 = later (5 * suc i + 3) (5 * i + 3) (omega arith) in
      let p4 = later (5 * suc i + 3 + 1) (5 * i + 3 + 1) (omega arith) in
      λ z. record { kind = p0 z; first = p1 z + 256 * p2 z; second = p3 z + 256 * p4 z }

  from-later : (n i : ℕ) → records_from five (suc i) n ≡ records_from xs i n
  unfolding records_from
  from-later zero i = refl
  from-later (suc n) i = ap₂ (λ (r : Record) (l : List Record). r ∷ l) (record-later i) (from-later n (suc i))

  pub decode-cons : decode five ≡ record { kind = k; first = a + 256 * b; second = c + 256 * d } ∷ decode xs
  unfolding decode records_from record_at
  decode-cons =
      let e : length five / 5 ≡ suc (length xs / 5) = omega arith in
      rw (e, from-later (length xs / 5) 0)

pub low-high : (x : ℕ) → x < 65536 → low x + 256 * high x ≡ x
low-high x h = omega arith

pub decode-encode : (tr : List Record) → AllNarrow tr → decode (encode tr) ≡ tr
unfolding encode
decode-encode [] h = unfold decode records_from in refl
decode-encode (r ∷ rest) h =
    let n = h 0 (omega arith) in
    let f = low-high r.first n.first_fits in
    let g = low-high r.second n.second_fits in
    let d = decode-encode rest (λ i l. h (suc i) (omega arith)) in
    decode-cons r.kind (low r.first) (high r.first) (low r.second) (high r.second) (encode rest)
    ∙ (λ z. record { kind = r.kind; first = f z; second = g z } ∷ d z)

pub low_of : (a b : ℕ) → a < 256 → low (a + 256 * b) ≡ a
low_of a b h = omega arith

pub high-of : (a b : ℕ) → a < 256 → b < 256 → high (a + 256 * b) ≡ b
high-of a b h l = omega arith

encode-five : (k a b c d : ℕ) (xs : List ℕ) → a < 256 → b < 256 → c < 256 → d < 256 → encode (decode xs) ≡ xs → encode (decode (k ∷ a ∷ b ∷ c ∷ d ∷ xs)) ≡ k ∷ a ∷ b ∷ c ∷ d ∷ xs
unfolding encode
encode-five k a b c d xs ha hb hc hd e =
    rw (decode-cons k a b c d xs, low_of a b ha, high-of a b ha hb, low_of c d hc, high-of c d hc hd, e)

pub encode-decode : (n : ℕ) (b : List ℕ) → length b ≡ 5 * n → Bytes b → encode (decode b) ≡ b
encode-decode zero [] l h = unfold decode records_from encode in refl
encode-decode zero (x ∷ b) l h = absurd (omega arith)
encode-decode (suc n) [] l h = absurd (omega arith)
encode-decode (suc n) (k ∷ []) l h = absurd (omega arith)
encode-decode (suc n) (k ∷ a ∷ []) l h = absurd (omega arith)
encode-decode (suc n) (k ∷ a ∷ b ∷ []) l h = absurd (omega arith)
encode-decode (suc n) (k ∷ a ∷ b ∷ c ∷ []) l h = absurd (omega arith)
encode-decode (suc n) (k ∷ a ∷ b ∷ c ∷ d ∷ xs) l h =
    encode-five k a b c d xs (h 1 (omega arith)) (h 2 (omega arith)) (h 3 (omega arith)) (h 4 (omega arith))
    (encode-decode n xs (omega arith) (λ i m. h (suc (suc (suc (suc (suc i))))) (omega arith)))

pub begins-most : (before : List Record) → begin-count before ≤ length before
unfolding begin-count
begins-most [] = omega arith
begins-most (r ∷ before) = go (is_begin r) (begins-most before)
  where
    go : (b : Bool) → begin-count before ≤ length before → cond b (begin-count before + 1) (begin-count before) ≤ suc (length before)
    go true h = omega arith
    go false h = omega arith

-- four bytes as a number
pub four_bytes : (d : ℕ) → d < 4294967296 → low d + 256 * high d + 65536 * (low (d / 65536) + 256 * high (d / 65536)) ≡ d
four_bytes d h = omega arith
