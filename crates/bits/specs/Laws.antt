-- What is proved of the table and the sets, bit by bit: see proofs/BitLaws. Assumes nothing.
use Rattle.std.specs.Prelude.{ℕ, ◌/◌, ◌%◌, ◌≤◌, ◌<◌, ◌≡◌, false, ◌&&◌, ◌||◌, List, eqb, length, get_or}
use Rattle.bits.specs.Words.{bit_at}
use Rattle.bits.specs.Table.{place, bit_of, put_bit, or_row, member, or_set}

-- a table of full length whose words hold nothing past their row
pub record Proper (ws : List ℕ) : Type 0 where
  pub room : 8704 ≤ length ws
  pub past : (t u : ℕ) → u < 1024 → u < t → t / 64 ≤ u / 64 → bit_at (get_or ws (place t u) 0) (t % 64) ≡ false

-- p enters row u, and nothing else changes
abbrev pub PutsBit : ℕ → ℕ → List ℕ → Type 0
PutsBit p u ws = (t v : ℕ) → bit_of (put_bit p u ws) t v ≡ (bit_of ws t v || (eqb t p && eqb v u))

-- row p is taken into row u, and nothing else changes
abbrev pub TakesRow : ℕ → ℕ → List ℕ → Type 0
TakesRow p u ws = (t v : ℕ) → bit_of (or_row p u ws) t v ≡ (bit_of ws t v || (eqb v u && bit_of ws t p))

-- row x of a table is taken into set l, and nothing else changes
abbrev pub TakesInto : List ℕ → ℕ → ℕ → List ℕ → Type 0
TakesInto table l x ws = (k y : ℕ) → member (or_set table l x ws) k y ≡ (member ws k y || (eqb k l && bit_of table y x))
