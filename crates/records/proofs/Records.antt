-- The records before a position, one more and one less.
-- Assumes nothing.
use Prim.Native.Nat.{ℕ, zero, suc, ◌+◌, ◌-◌, ◌<◌}
use mathlib.Core.Path.{◌≡◌, refl}
use mathlib.Core.List.{List, ◌∷◌}
use native.Mathlib.Nat.{not-suc-le-zero}
use native.Mathlib.Numerals.{add-one, sub-one}
use lib.ListN.{length}
use Rattle.records.specs.declared.Record.{Record}
use Rattle.records.specs.Records.{at, past}

module _ (tr : List Record) where
  pub past_more : (i : ℕ) → past tr (i + 1) ≡ at tr i ∷ past tr i
  unfolding past
  past_more i = rw add-one

  pub past-less : (i : ℕ) → 0 < i → past tr i ≡ at tr (i - 1) ∷ past tr (i - 1)
  unfolding past
  past-less zero h = absurd (not-suc-le-zero h)
  past-less (suc i) h = rw sub-one

  pub past-length : (i : ℕ) → length (past tr i) ≡ i
  unfolding past
  past-length zero = refl
  past-length (suc i) = rw (past-length i)
