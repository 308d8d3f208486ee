-- A trace as a setting of races and cover. Assumes nothing.
use Rattle.std.specs.Prelude.{Bool, ◌||◌, List, length}
use Rattle.records.specs.declared.Record.{Record}
use Rattle.records.specs.Records.{at, is_read, is_write, event_of}
use Rattle.order.specs.HappensBefore.{happens_before}
use Rattle.coverage.specs.Setting.{Setting}
use Rattle.coverage.specs.Neighbours.{Cells, conflicts}

-- a read or a write. The source: "both operations access the same variable, at least one is a write"
abbrev pub is_access : Record → Bool
is_access r = is_read r || is_write r

-- The second of a read or write is its cell: "| 5 | read | open event | cell |", "| 6 | write | open event | cell |"
abbrev pub cells_of : List Record → Cells
cells_of tr = record { cell = λ i. (at tr i).second; is_access = λ i. is_access (at tr i); is_write = λ i. is_write (at tr i) }

-- "ev is the event action of a record"; "same cell, at least one write"; "t happens before u (t ≼ u)"
abbrev pub setting_of : List Record → Setting
setting_of tr = record { size = length tr; ev = λ i. event_of (at tr i); conf = conflicts (cells_of tr); le = happens_before tr }
