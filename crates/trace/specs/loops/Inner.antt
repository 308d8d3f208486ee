-- Accesses inside an event action.
-- Assumes nothing.
use Rattle.std.specs.Prelude.{ℕ, ◌+◌, ◌≤◌, ◌<◌, ◌≡◌, true, List, length}
use Rattle.records.specs.declared.Record.{Record}
use Rattle.records.specs.Records.{at}
use Rattle.trace.specs.Place.{inside}
use Rattle.trace.specs.Rule.{numbered}

-- a read or a write by event e, of a cell's number: where e is open, no refusal concerns it
pub record Inner (e : ℕ) (r : Record) : Type 0 where
  pub access : 4 < r.kind
  pub kind_low : r.kind ≤ 6
  pub own : r.first ≡ e
  pub cell : numbered r.second ≡ true

-- The records from position i up to another are such accesses; where there is one, the situation s is inside an event action.
pub data Accesses (tr : List Record) (s e i : ℕ) : ℕ → Type 0 where
  none : Accesses tr s e i i
  more : {j : ℕ} → Accesses tr s e i j → s ≡ inside → j < length tr → Inner e (at tr j) → Accesses tr s e i (j + 1)
