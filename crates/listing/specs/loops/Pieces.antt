-- What the private functions promise, of which the lines are made.
-- Assumes nothing: these are definitions.
use Rattle.std.specs.Prelude.{ℕ, ◌+◌, ◌≤◌, ◌≡◌, List, length}
use Rattle.std.proofs.lemmas.List.Edits.{sets}
use Rattle.listing.specs.Lines.{decimal}

-- r is the number of digits of n.
pub record Width (n r : ℕ) : Type 0 where
  pub exact : r ≡ length (decimal n)
  pub small : r ≤ 20

-- The bytes, len of them, are written at at, from s to s', and r is the position after them.
pub record Written (s : List ℕ) (at : ℕ) (bytes : List ℕ) (len : ℕ) (s' : List ℕ) (r : ℕ) : Type 0 where
  pub contents : s' ≡ sets s at bytes
  pub size : length bytes ≡ len
  pub next : r ≡ at + len
