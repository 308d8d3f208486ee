-- Raising a row by the open entries of one second access, entry by entry.
-- Assumes nothing.
use Prim.Native.Nat.{ℕ, suc, ◌+◌, ◌*◌, ◌-◌, ◌≤◌, ◌<◌}
use mathlib.Core.Path.{◌≡◌, refl, sym}
use mathlib.Core.Logic.{◌≢◌}
use mathlib.Core.List.{List}
use native.Mathlib.Omega.{arith}
use borrow.Author.Tests.{eq-eqb, ne_eqb}
use lib.ListN.{get_or}
use Rattle.records.specs.declared.Record.{Record}
use Rattle.clocks.specs.Rows.{merge_row}
use Rattle.races.specs.loops.Marking.{first}
use Rattle.races.specs.loops.Raising.{row_in, raise_by, raise_down}

module _ (tr : List Record) (ranks : List ℕ) (w chains u : ℕ) (list : List ℕ) where
  pub raise-open : (j : ℕ) (cs : List ℕ) → get_or list (5 * j + 4) 0 ≡ 1 → (t : ℕ) → t ≡ row_in tr ranks (first list j - 1) → merge_row w chains t u cs ≡ raise_by tr ranks w chains u list j cs
  unfolding raise_by
  raise-open j cs e t z = rw (eq-eqb (get_or list (5 * j + 4) 0) 1 e, z)

  pub raise-covered : (j : ℕ) (cs : List ℕ) → get_or list (5 * j + 4) 0 ≢ 1 → cs ≡ raise_by tr ranks w chains u list j cs
  unfolding raise_by
  raise-covered j cs n = rw (ne_eqb (get_or list (5 * j + 4) 0) 1 n)

  pub raise-none : (k : ℕ) (cs : List ℕ) → raise_down tr ranks w chains u list k 0 cs ≡ cs
  unfolding raise_down
  raise-none k cs = refl

  pub raise-over : (k j : ℕ) (cs : List ℕ) → j ≤ k → raise_down tr ranks w chains u list k (j - k) cs ≡ cs
  raise-over k j cs h = let z : j - k ≡ 0 = omega arith in rw z (raise-none k cs)

  -- entry k + d reads, or writes
  pub down-reads : (k d : ℕ) (cs cs' : List ℕ) → cs' ≡ raise_by tr ranks w chains u list (k + d) cs → get_or list (5 * (k + d) + 3) 0 ≡ 3 → raise_down tr ranks w chains u list k (suc d) cs ≡ raise_down tr ranks w chains u list k d cs'
  unfolding raise_down
  down-reads k d cs cs' e s = rw (eq-eqb (get_or list (5 * (k + d) + 3) 0) 3 s, e) refl

  pub down-writes : (k d : ℕ) (cs cs' : List ℕ) → cs' ≡ raise_by tr ranks w chains u list (k + d) cs → get_or list (5 * (k + d) + 3) 0 ≢ 3 → raise_down tr ranks w chains u list k (suc d) cs ≡ cs'
  unfolding raise_down
  down-writes k d cs cs' e s = rw (ne_eqb (get_or list (5 * (k + d) + 3) 0) 3 s, e) refl

  module _ (k j : ℕ) (h : k < j) (cs cs' : List ℕ) (e : cs' ≡ raise_by tr ranks w chains u list (j - 1) cs) where
    left : k + (j - 1 - k) ≡ j - 1
    left = omega arith

    all : j - k ≡ suc (j - 1 - k)
    all = omega arith

    pub raise-reads : get_or list (5 * (j - 1) + 3) 0 ≡ 3 → raise_down tr ranks w chains u list k (j - 1 - k) cs' ≡ raise_down tr ranks w chains u list k (j - k) cs
    raise-reads s = rw all (sym (down-reads k (j - 1 - k) cs cs' (rw left e) (rw left s)))

    pub raise-writes : get_or list (5 * (j - 1) + 3) 0 ≢ 3 → cs' ≡ raise_down tr ranks w chains u list k (j - k) cs
    raise-writes s = rw all (sym (down-writes k (j - 1 - k) cs cs' (rw left e) (rw left s)))
