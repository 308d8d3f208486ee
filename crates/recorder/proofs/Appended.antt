-- Records after others: what stands where, and what stands before it.
-- Assumes nothing.
use Prim.Native.Nat.{ℕ, zero, suc, ◌<◌, ◌≤◌}
use mathlib.Core.Path.{◌≡◌, refl}
use mathlib.Core.List.{List, ◌∷◌, ◌++◌}
use native.Mathlib.Omega.{arith}
use lib.ListN.{length, get_or-append}
use lib.Seq.{get_or-append_seam}
use Rattle.records.specs.declared.Record.{Record}
use Rattle.records.specs.Records.{no_record, at, past}

module _ (tr ys : List Record) where
  pub at_front : (i : ℕ) → i < length tr → at (tr ++ ys) i ≡ at tr i
  at_front i h = get_or-append tr ys no_record i h

  pub past-front : (i : ℕ) → i ≤ length tr → past (tr ++ ys) i ≡ past tr i
  unfolding past
  past-front zero h = refl
  past-front (suc i) h = rw (at_front i h, past-front i (omega arith))

pub at-seam : (tr : List Record) (x : Record) (ys : List Record) → at (tr ++ x ∷ ys) (length tr) ≡ x
at-seam tr x ys = get_or-append_seam tr x ys no_record

pub past-seam : (tr : List Record) (x : Record) (ys : List Record) → past (tr ++ x ∷ ys) (suc (length tr)) ≡ x ∷ past tr (length tr)
unfolding past
past-seam tr x ys = rw (at-seam tr x ys, past-front tr (x ∷ ys) (length tr) (omega arith))
