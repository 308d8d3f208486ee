-- What filling from the table asks for. Assumes nothing.
use Rattle.std.specs.Prelude.{◌≡◌, List, ℕ, false, Option, Some, None}
use Rattle.records.specs.declared.Record.{Record}
use Rattle.records.specs.declared.Trace.{Trace}
use Rattle.records.specs.Kinds.{has_send}
use Rattle.links.specs.Fill.{fill_all}
use Rattle.trace.specs.Reading.{records_in, Accepts}

-- of records with a send the table tells what happens before what; there may be none where none is a send
abbrev pub TellsOrder : List Record → Option (List ℕ) → Type 0
TellsOrder tr None = has_send tr ≡ false
TellsOrder tr (Some table) = table ≡ (fill_all tr).words

-- the same of the records of an accepted trace
abbrev pub TellsLinks : List ℕ → Option (List ℕ) → Type 0
TellsLinks b table = (t : Trace) → Accepts b t → TellsOrder (records_in b t) table
