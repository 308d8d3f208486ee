-- What may race, record by record. Assumes nothing.
use Rattle.std.specs.Prelude.{Bool, not, ◌&&◌, ◌||◌, eqb}
use Rattle.records.specs.declared.Record.{Record}
use Rattle.records.specs.Records.{is_write, event_of}
use Rattle.races.specs.Traces.{is_access}

-- the same of two records
unfoldable pub conflict : Record → Record → Bool
conflict a b = (is_access a && is_access b) && (eqb a.second b.second && (is_write a || is_write b))

-- so do they, in two event actions
unfoldable pub clash : Record → Record → Bool
clash a b = conflict a b && not (eqb (event_of a) (event_of b))
