-- Chains, clock rows and filling by event number, over forks, joins and happens-before as the records make them. Assumes nothing.
use Rattle.std.specs.Prelude.{ℕ, zero, suc, ◌+◌, ◌*◌, ◌-◌, ◌≤◌, ◌<◌, ◌≡◌, List, ◌++◌, ◌≢◌, ◌⊎◌, ◌↔◌, length, get_or, take, drop, Ok}
use Rattle.records.specs.declared.Record.{Record}
use Rattle.records.specs.declared.Trace.{Trace}
use Rattle.trace.specs.Reading.{records_in, Accepts}
use Rattle.clocks.specs.Rows.{merge_row, copy_row, clear_row}
use Rattle.order.specs.Clocks.{table, chain_of, entry}
use Rattle.order.specs.HappensBefore.{Begins, Link, HappensBefore, trace_links}
use Rattle.order.specs.Rank.{rank}
use Rattle.order.specs.loops.Pass.{Rows, begin_row}
use Rattle.order.specs.Paper.{Fills}

module _ (tr : List Record) where
  -- the row of an event that begins, "one row after another in begin order", and its chain
  abbrev pub row_of : ℕ → ℕ
  row_of e = rank tr e - 1

  abbrev pub chain_in : ℕ → ℕ
  chain_in e = chain_of (trace_links tr) (row_of e)

  -- s begins before e
  pub record Sooner (s e : ℕ) : Type 0 where
    pub first : Begins tr s
    pub second : Begins tr e
    pub earlier : first.position < second.position

  module _ (chain : ℕ → ℕ) where
    -- m is the "last member" of chain c when e begins
    pub record LastOf (e c m : ℕ) : Type 0 where
      pub sooner : Sooner m e
      pub member : chain m ≡ c
      pub last : (s : ℕ) → Sooner s e → chain s ≡ c → (s ≡ m) ⊎ Sooner s m

    -- "a new chain": the lowest-numbered one that has no member when e begins
    pub record NewChain (e c : ℕ) : Type 0 where
      pub none : (s : ℕ) → Sooner s e → chain s ≡ c → ⊥
      pub lower : (d : ℕ) → d < c → (s : ℕ) × Sooner s e × (chain s ≡ d)

    -- "Event actions take chains in order of begin: the lowest-numbered chain, from 0, whose last member happens before the new one, else a new
    -- chain."
    pub record ChainRule (e : ℕ) : Type 0 where
      pub taken : ((m : ℕ) × LastOf e (chain e) m × HappensBefore tr m e) ⊎ NewChain e (chain e)
      pub lowest : (d m : ℕ) → d < chain e → LastOf e d m → HappensBefore tr m e → ⊥

  module _ (width : ℕ) (clocks : List ℕ) where
    -- "A clock row has one 16-bit entry per chain": the entry of e's row at chain c
    abbrev pub entry_in : ℕ → ℕ → ℕ
    entry_in e c = get_or clocks (row_of e * width + c) 0

    -- x is "the largest of the direct predecessors' rows" at entry c, 0 where there are none
    pub record Largest (e c x : ℕ) : Type 0 where
      pub bound : (p : ℕ) → Link tr p e → entry_in p c ≤ x
      pub reached : (x ≡ 0) ⊎ ((p : ℕ) × Link tr p e × (entry_in p c ≡ x))

    -- "the largest of the direct predecessors' rows, entry by entry, with 1 added at its own chain; unused entries are 0"
    pub record ClockRow (e : ℕ) : Type 0 where
      pub fits : chain_in e < width
      pub own : (x : ℕ) × Largest e (chain_in e) x × (entry_in e (chain_in e) ≡ x + 1)
      pub others : (c : ℕ) → c < width → c ≢ chain_in e → (x : ℕ) × Largest e c x × (entry_in e c ≡ x)
      pub unused : (c : ℕ) → c < width → ((s : ℕ) → Begins tr s → HappensBefore tr s e → chain_in s ≡ c → ⊥) → entry_in e c ≡ 0

-- of every accepted trace, and of the clocks that filling left
pub record ByEvent : Type 0 where
  -- "one row after another in begin order"
  pub begin_order : (bytes : List ℕ) (t : Trace) → Accepts bytes t
      → (s e : ℕ) → Begins (records_in bytes t) s → Begins (records_in bytes t) e
      → Sooner (records_in bytes t) s e ↔ (row_of (records_in bytes t) s < row_of (records_in bytes t) e)
  pub every_row : (bytes : List ℕ) (t : Trace) → Accepts bytes t
      → (r : ℕ) → r < t.events → (e : ℕ) × Begins (records_in bytes t) e × (row_of (records_in bytes t) e ≡ r)
  pub chain_rule : (bytes : List ℕ) (t : Trace) → Accepts bytes t
      → (e : ℕ) → Begins (records_in bytes t) e → ChainRule (records_in bytes t) (chain_in (records_in bytes t)) e
  pub clock-row : (bytes : List ℕ) (t : Trace) → Accepts bytes t
      → (width : ℕ) (clocks clocks' : List ℕ) (k : ℕ) → Fills bytes width clocks clocks' (Ok k)
      → (e : ℕ) → Begins (records_in bytes t) e → ClockRow (records_in bytes t) width clocks' e

-- "that row's part of the lent clocks and no other": what stands before the part of row u, and what stands after it, is as it was
pub record OnlyRow (width u : ℕ) (clocks clocks' : List ℕ) : Type 0 where
  pub as_long : length clocks' ≡ length clocks
  pub before : (i : ℕ) → i < u * width → get_or clocks' i 0 ≡ get_or clocks i 0
  pub after : (i : ℕ) → u * width + width ≤ i → get_or clocks' i 0 ≡ get_or clocks i 0

-- row u put in its part; and the first u rows of a trace, "one row after another in begin order"
unfoldable pub put_row : ℕ → ℕ → List ℕ → List ℕ → List ℕ
put_row width u row clocks = take (u * width) clocks ++ (row ++ drop (u * width + width) clocks)

unfoldable pub put_rows : List Record → ℕ → ℕ → List ℕ → List ℕ
put_rows tr width zero clocks = clocks
put_rows tr width (suc u) clocks = put_row width u (table width (entry (trace_links tr) u)) (put_rows tr width u clocks)

-- "Filling one row writes that row's part of the lent clocks and no other."
pub record ThatRowAndNoOther : Type 0 where
  -- filling is each row in turn, put in its part
  pub in-turn : (bytes : List ℕ) (t : Trace) → Accepts bytes t
      → (width : ℕ) (clocks clocks' : List ℕ) (k : ℕ) → Fills bytes width clocks clocks' (Ok k)
      → clocks' ≡ put_rows (records_in bytes t) width t.events clocks
  pub put : (width u : ℕ) (row clocks : List ℕ) → length row ≡ width → u * width + width ≤ length clocks
      → OnlyRow width u clocks (put_row width u row clocks)
  -- and so is each step by which a row is made: it is cleared, or the row of a direct predecessor is copied over it and others are
  -- merged into it, and it begins
  pub cleared : (width u : ℕ) (clocks : List ℕ) → OnlyRow width u clocks (clear_row width u clocks)
  pub copied : (width chains p u : ℕ) (clocks : List ℕ) → OnlyRow width u clocks (copy_row width chains p u clocks)
  pub merged : (width chains p u : ℕ) (clocks : List ℕ) → OnlyRow width u clocks (merge_row width chains p u clocks)
  pub begun : (width u : ℕ) (s : Rows) → OnlyRow width u s.clocks (begin_row width u s).clocks
