-- Bytes stored one after the other, where they fit.
-- Assumes nothing.
use Prim.Native.Nat.{ℕ, ◌+◌, ◌≤◌, ◌<◌}
use mathlib.Core.Path.{◌≡◌, sym, ◌∙◌}
use mathlib.Core.List.{List}
use borrow.Author.Tests.{le-leb, lt-leb}
use lib.ListN.{length}
use lib.Seq.{sets, sets-eq}
use Rattle.records.specs.Encoding.{stored, stored_within}

-- where they fit, a run of stores from p on; else the bytes stay as they are
module _ (b : List ℕ) (p : ℕ) (vs : List ℕ) where
  pub stored_is : p + length vs ≤ length b → stored_within b p vs ≡ stored b p vs
  unfolding stored_within
  stored_is h = rw (le-leb (p + length vs) (length b) h)

  pub stored-sets : p + length vs ≤ length b → sets b p vs ≡ stored_within b p vs
  unfolding stored
  stored-sets h = sets-eq vs b p h ∙ sym (stored_is h)

  pub stored-none : length b < p + length vs → b ≡ stored_within b p vs
  unfolding stored_within
  stored-none h = rw (lt-leb (p + length vs) (length b) h)
