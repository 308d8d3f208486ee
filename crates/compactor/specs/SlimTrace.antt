-- "A compactor writes a second trace, nothing before its record 1, that keeps, per event action and cell, only the first read and the first write, as source
-- document 000 section 4.5 allows, and every other record."
-- Assumes nothing.
use Rattle.std.specs.Prelude.{ℕ, Bool, not, ◌&&◌, List, map, eqb, length, get_or}
use Rattle.records.specs.declared.Record.{Record}
use Rattle.records.specs.Records.{at, event_of}
use Rattle.coverage.specs.Below.{some, upto}
use Rattle.races.specs.Traces.{is_access}

module _ (tr : List Record) where
  -- records i and j are of one event action, and both read, or both write, one cell
  unfoldable pub repeats : ℕ → ℕ → Bool
  repeats i j = eqb (at tr j).kind (at tr i).kind && (eqb (event_of (at tr j)) (event_of (at tr i)) && eqb (at tr j).second (at tr i).second)

  -- Record i is dropped where it is a read (a write) and an earlier record of the same event action is a read (a write) of the same cell.
  unfoldable pub dropped : ℕ → Bool
  dropped i = is_access (at tr i) && some i (repeats i)

  abbrev pub kept : ℕ → Bool
  kept i = not (dropped i)

  -- the records of the slim trace
  unfoldable pub slim_of : List Record
  slim_of = map (at tr) (upto (length tr) kept)

  -- "a kept record being the same access under its new number": the number in the trace of what has that number in the slim trace, both from 0
  unfoldable pub old : ℕ → ℕ
  old i = get_or (upto (length tr) kept) i 0

  -- "It gives the number of records dropped."
  unfoldable pub dropped_in : ℕ
  dropped_in = length (upto (length tr) dropped)
