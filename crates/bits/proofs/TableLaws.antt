-- Where the rows stand, and what the tests at the head of each function say. Assumes nothing.
use Prim.Native.Nat.{ℕ, ◌+◌, ◌*◌, ◌-◌, ◌/◌, ◌%◌, ◌≤◌, ◌<◌}
use mathlib.Core.Path.{◌≡◌}
use mathlib.Core.Bool.{true, false, ◌&&◌}
use mathlib.Core.List.{List}
use mathlib.Core.Logic.{◌⊎◌, inl, inr}
use native.Mathlib.Omega.{arith}
use native.Mathlib.Decide.{dec_lt}
use borrow.Author.Tests.{lt-ltb, le-ltb, le-leb, lt-leb}
use lib.Dec.{ltb}
use lib.ListN.{length, get_or, set}
use Rattle.bits.specs.Words.{bit_at, with_bit, or_from, or_others}
use Rattle.bits.specs.Table.{row_start, in_table, place, bit_of, put_bit, or_row, member, or_set}

pub row_low : (u : ℕ) → u < 512 → row_start u ≡ 17 * u
unfolding row_start
row_low u h = rw (lt-ltb u 512 h)

pub row-high : (u : ℕ) → 512 ≤ u → row_start u ≡ 17 * (1023 - u) + (16 - u / 64)
unfolding row_start
row-high u h = rw (le-ltb u 512 h)

pub lt-or-ge : (m n : ℕ) → (m < n) ⊎ (n ≤ m)
lt-or-ge m n = go (dec_lt m n)
  where
    go : Dec (m < n) → (m < n) ⊎ (n ≤ m)
    go (yes h) = inl h
    go (no h) = inr (omega arith)

-- a row stands in the table
pub row_inside : (u : ℕ) → u < 1024 → row_start u + (u / 64 + 1) ≤ 8704
row_inside u h = go (lt-or-ge u 512)
  where
    go : (u < 512) ⊎ (512 ≤ u) → row_start u + (u / 64 + 1) ≤ 8704
    go (inl l) = rw (row_low u l) (omega arith)
    go (inr l) = rw (row-high u l) (omega arith)

-- what no test lets through changes nothing
module _ (p u : ℕ) where
  pub outside_low : u < p → in_table p u ≡ false
  outside_low h = rw (lt-leb p u h)

  pub outside_high : p ≤ u → 1024 ≤ u → in_table p u ≡ false
  outside_high h k = rw (le-leb p u h, le-ltb u 1024 k)

  pub inside : p ≤ u → u < 1024 → in_table p u ≡ true
  inside h k = rw (le-leb p u h, lt-ltb u 1024 k)

  module _ (ws : List ℕ) where
    pub bit-none : in_table p u ≡ false → false ≡ bit_of ws p u
    unfolding bit_of
    bit-none e = rw e

    pub bit_is : in_table p u ≡ true → bit_of ws p u ≡ bit_at (get_or ws (place p u) 0) (p % 64)
    unfolding bit_of
    bit_is e = rw e

    pub put_is : in_table p u ≡ true → put_bit p u ws ≡ set ws (place p u) (with_bit (get_or ws (place p u) 0) (p % 64))
    unfolding put_bit
    put_is e = rw e

    pub or-row-is : p < u → u < 1024 → 8704 ≤ length ws → or_row p u ws ≡ or_from (row_start u) (row_start p) 0 (p / 64 + 1) ws
    unfolding or_row
    or-row-is h k l = rw (lt-ltb p u h, lt-ltb u 1024 k, le-leb 8704 (length ws) l)

module _ (l x : ℕ) (ws : List ℕ) where
  pub member-none : (ltb l 4 && ltb x 1024) ≡ false → false ≡ member ws l x
  unfolding member
  member-none e = rw e

  pub member_is : l < 4 → x < 1024 → member ws l x ≡ bit_at (get_or ws (16 * l + x / 64) 0) (x % 64)
  unfolding member
  member_is h k = rw (lt-ltb l 4 h, lt-ltb x 1024 k)

  module _ (table : List ℕ) where
    pub or-set-is : l < 4 → x < 1024 → 64 ≤ length ws → 8704 ≤ length table → or_set table l x ws ≡ or_others table (16 * l) (row_start x) 0 (x / 64 + 1) ws
    unfolding or_set
    or-set-is h k i j = rw (lt-ltb l 4 h, lt-ltb x 1024 k, le-leb 64 (length ws) i, le-leb 8704 (length table) j)
