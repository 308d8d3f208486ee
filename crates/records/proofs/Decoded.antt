-- What stands where in the records of some bytes.
-- Assumes nothing.
use Prim.Native.Nat.{ℕ, zero, suc, ◌+◌, ◌*◌, ◌/◌, ◌<◌, ◌≤◌}
use mathlib.Core.Path.{◌≡◌, refl}
use mathlib.Core.List.{List}
use native.Mathlib.Nat.{add-zero, zero-add, not-suc-le-zero, le_of_suc-le-suc}
use native.Mathlib.Omega.{arith}
use lib.ListN.{length, get_or, get_or-eq_default}
use Rattle.records.specs.declared.Record.{Record}
use Rattle.records.specs.Records.{no_record, at}
use Rattle.records.specs.Bytes.{record_at, records_from, decode}

module _ (b : List ℕ) where
  from-length : (k i : ℕ) → length (records_from b i k) ≡ k
  unfolding records_from
  from-length zero i = refl
  from-length (suc k) i = rw (from-length k (suc i))

  from_at : (k i j : ℕ) (d : Record) → j < k → get_or (records_from b i k) j d ≡ record_at b (5 * (i + j))
  unfolding records_from
  from_at zero i j d h = absurd (not-suc-le-zero h)
  from_at (suc k) i zero d h = rw add-zero
  from_at (suc k) i (suc j) d h =
      let e : i + suc j ≡ suc i + j = omega arith in
      rw e (from_at k (suc i) j d (le_of_suc-le-suc h))

  pub decoded-length : length (decode b) ≡ length b / 5
  unfolding decode
  decoded-length = from-length (length b / 5) 0

  pub decoded : (i : ℕ) → i < length b / 5 → at (decode b) i ≡ record_at b (5 * i)
  unfolding decode
  decoded i h = rw zero-add at (from_at (length b / 5) 0 i no_record h)

  pub decoded-none : (i : ℕ) → length b / 5 ≤ i → at (decode b) i ≡ no_record
  decoded-none i h = get_or-eq_default (decode b) no_record (let e = decoded-length in omega arith)
