-- Filling for a call that asks about records and is lent work space too: the trace is read once, and handed on. Assumes nothing.
use Rattle.std.specs.Prelude.{ℕ, Bool, false, ◌&&◌, List, leb}
use Rattle.records.specs.declared.Trace.{Trace}
use Rattle.trace.specs.Reply.{Reply, gives, demand, then}
use Rattle.order.specs.Lent.{asking, work_for, spaced}

-- "11: .. or a record asked about is not in it": all records from the lowest to the highest asked about are in a trace of that many records;
-- from 1 to 0 none is asked about.
unfoldable pub asked : ℕ → ℕ → ℕ → Bool
asked lowest highest records = leb 1 lowest && leb highest records

-- the trace for a call that asks about those records and is lent that many clocks and bytes of work space
unfoldable pub read_within : List ℕ → ℕ → ℕ → ℕ → ℕ → ℕ → Reply Trace
read_within b lowest highest width clocks work = spaced (asking b (λ t. asked lowest highest t.records)) width clocks (work_for work)

-- the same of a reading at hand
unfoldable pub within : Reply Trace → ℕ → ℕ → ℕ → ℕ → ℕ → Reply Trace
within found lowest highest width clocks work =
    spaced (then found (λ t. demand (asked lowest highest t.records) 11 0 (gives t))) width clocks (work_for work)

-- one with no records and no event actions, where the call is refused
abbrev pub no_trace : Trace
no_trace = record { start = 0; records = 0; events = 0; sends = false }
