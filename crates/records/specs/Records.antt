-- A trace as a list of records. Positions count from 0; the record at position i has record number i + 1.
-- Assumes nothing.
use Rattle.std.specs.Prelude.{ℕ, zero, suc, ◌+◌, Bool, false, cond, ◌&&◌, ◌||◌, List, [], ◌∷◌, leb, eqb, get_or}
use Rattle.records.specs.declared.Record.{Record}

-- No record: kind 0 is no kind.
abbrev pub no_record : Record
no_record = record { kind = 0; first = 0; second = 0 }

-- The record at a position; past the end there is none.
abbrev pub at : List Record → ℕ → Record
at tr i = get_or tr i no_record

-- "kind, name, first, second": the table of the six kinds.
abbrev pub is_begin : Record → Bool
is_begin r = eqb r.kind 1

abbrev pub is_end : Record → Bool
is_end r = eqb r.kind 2

abbrev pub is_fork : Record → Bool
is_fork r = eqb r.kind 3

abbrev pub is_join : Record → Bool
is_join r = eqb r.kind 4

abbrev pub is_read : Record → Bool
is_read r = eqb r.kind 5

abbrev pub is_write : Record → Bool
is_write r = eqb r.kind 6

-- The event action of a record, by its event number: the open event, the event about to begin, the event that begins or ends.
abbrev pub event_of : Record → ℕ
event_of r = r.first

-- The records at the positions below i, the latest first: what stands before position i.
unfoldable pub past : List Record → ℕ → List Record
past tr zero = []
past tr (suc i) = at tr i ∷ past tr i

-- A record of that test for event e is among them.
unfoldable pub has : (Record → Bool) → ℕ → List Record → Bool
has test e [] = false
has test e (r ∷ before) = (test r && eqb r.first e) || has test e before

-- e has begun, e has ended
unfoldable pub begun : ℕ → List Record → Bool
begun e before = has is_begin e before

unfoldable pub ended : ℕ → List Record → Bool
ended e before = has is_end e before

-- The number of begins.
unfoldable pub begins : List Record → ℕ
begins [] = 0
begins (r ∷ before) = cond (is_begin r) (begins before + 1) (begins before)

-- How many of the k records from position i on stand before the first that is no access: kinds above 4 are read and write.
unfoldable pub leading : List Record → ℕ → ℕ → ℕ
leading tr zero i = 0
leading tr (suc k) i = cond (leb 5 (at tr i).kind) (suc (leading tr k (suc i))) 0
