-- The first records of some bytes.
-- Assumes nothing.
use Prim.Native.Nat.{ℕ, ◌+◌, ◌*◌, ◌/◌, ◌<◌, ◌≤◌}
use mathlib.Core.Path.{◌≡◌, sym, ap, ◌∙◌}
use mathlib.Core.List.{List}
use native.Mathlib.Omega.{arith}
use lib.ListN.{length, get_or, take, drop}
use lib.Seq.{length-take-le, take-length, take-take, get_or-take, ext_get_or}
use Rattle.records.specs.Records.{no_record, at}
use Rattle.records.specs.Bytes.{record_at, decode, part}
use Rattle.records.proofs.Decoded.{decoded-length, decoded as decoded-at}

-- the bytes of the first n records hold the first n records
front-byte : (b : List ℕ) (n i k : ℕ) → i < n → k < 5 → get_or (take (5 * n) b) (5 * i + k) 0 ≡ get_or b (5 * i + k) 0
front-byte b n i k h l = get_or-take (5 * n) b (5 * i + k) 0 (omega arith)

front-record : (b : List ℕ) (n i : ℕ) → i < n → record_at (take (5 * n) b) (5 * i) ≡ record_at b (5 * i)
unfolding record_at
front-record b n i h =
    let z : 5 * i + 0 ≡ 5 * i = omega arith in
    let e2 : 5 * i + 1 + 1 ≡ 5 * i + 2 = omega arith in
    let e4 : 5 * i + 3 + 1 ≡ 5 * i + 4 = omega arith in
    rw (
      rw z at (front-byte b n i 0 h (omega arith)),
      front-byte b n i 1 h (omega arith),
      e2,
      front-byte b n i 2 h (omega arith),
      front-byte b n i 3 h (omega arith),
      e4,
      front-byte b n i 4 h (omega arith),
    )

pub front-decoded : (b : List ℕ) (n : ℕ) → n ≤ length (decode b) → decode (part b 0 n) ≡ take n (decode b)
unfolding part
front-decoded b n l = ext_get_or no_record (decode (take (5 * n) b)) (take n (decode b)) (long ∙ sym (length-take-le n (decode b) l)) each
  where
    all : length (decode b) ≡ length b / 5
    all = decoded-length b

    some : length (take (5 * n) b) ≡ 5 * n
    some = length-take-le (5 * n) b (omega (arith, all))

    long : length (decode (take (5 * n) b)) ≡ n
    long = let d = decoded-length (take (5 * n) b) in omega (arith, some)

    each : (i : ℕ) → i < length (decode (take (5 * n) b)) → at (decode (take (5 * n) b)) i ≡ at (take n (decode b)) i
    each i h =
        let k : i < n = omega (arith, long) in
        decoded-at (take (5 * n) b) i (omega (arith, some))
        ∙ front-record b n i k
        ∙ sym (decoded-at b i (omega (arith, all)))
        ∙ sym (get_or-take n (decode b) i no_record k)

-- bytes past the last whole record count for nothing
module _ (b : List ℕ) (n : ℕ) (e : n ≡ length b / 5) where
  pub whole-decoded : decode (part b 0 n) ≡ decode b
  whole-decoded =
      let d = decoded-length b in
      let q : n ≡ length (decode b) = omega arith in
      front-decoded b n (omega arith) ∙ ap (λ (k : ℕ). take k (decode b)) q ∙ take-length (decode b)

  pub whole_length : length (part b 0 n) ≡ 5 * n
  unfolding part
  whole_length = length-take-le (5 * n) b (omega arith)

-- the first n of the records that start there
pub part-front : (b : List ℕ) (start m n : ℕ) → n ≤ length (decode (part b start m)) → n ≤ m → decode (part b start n) ≡ take n (decode (part b start m))
part-front b start m n l h = ap decode (sym (shorter)) ∙ front-decoded (part b start m) n l
  where
    shorter : part (part b start m) 0 n ≡ part b start n
    shorter = unfold part in take-take (5 * n) (5 * m) (drop start b) (omega arith)
