-- The chains from a table that tells the order, row by row. Assumes nothing.
use Rattle.std.specs.Prelude.{ℕ, ◌-◌, ◌≤◌, ◌≡◌, Bool, List, ◌++◌, get_or, replicate}
use Rattle.order.specs.Links.{Links, leq}
use Rattle.order.specs.Chains.{first, needs}
use Rattle.order.specs.Clocks.{table, chain_of}
use Rattle.order.specs.loops.FromTable.{Tells}

-- the lowest chain whose last member is before row u, or a new one
unfoldable pub bit_chain : (ℕ → ℕ → Bool) → List ℕ → ℕ → ℕ → ℕ
bit_chain before lasts taken u = first (λ c. before (get_or lasts c 0) u) taken

-- what entering m rows asks for
pub record ReadyRows (before : ℕ → ℕ → Bool) (m w : ℕ) : Type 0 where
  pub links : Links
  pub tells : Tells before m links
  pub narrow : w ≤ 1024
  pub few : m ≤ 1024

-- and what it gives: the chains of rows x and y, or the row that needs more chains than the width
pub record EntersRows (l : Links) (m x y w rows first second : ℕ) : Type 0 where
  pub rows_are : rows ≡ needs (leq l) w m
  pub first-is : rows ≡ m → first ≡ get_or (table m (chain_of l) ++ replicate (1024 - m) 0) x 0
  pub second_is : rows ≡ m → second ≡ get_or (table m (chain_of l) ++ replicate (1024 - m) 0) y 0
