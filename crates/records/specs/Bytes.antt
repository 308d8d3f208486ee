-- "fields are unsigned, low byte first. A record is 5 bytes: kind (1 byte), first (2), second (2)."
-- Assumes nothing.
use Rattle.std.specs.Prelude.{ℕ, zero, suc, ◌+◌, ◌*◌, ◌/◌, List, [], ◌∷◌, get_or, length, take, drop}
use Rattle.slices.specs.Slices.{two_bytes}
use Rattle.records.specs.declared.Record.{Record}

-- "A record is 5 bytes"
abbrev pub record_bytes : ℕ
record_bytes = 5

-- "The trace closes with an 8-byte trailer"
abbrev pub trailer_bytes : ℕ
trailer_bytes = 8

-- the record in the bytes from p on
unfoldable pub record_at : List ℕ → ℕ → Record
record_at b p = record {
  kind = get_or b p 0;
  first = two_bytes b (p + 1);
  second = two_bytes b (p + 3);
}

-- k records from record i on, counted from 0
unfoldable pub records_from : List ℕ → ℕ → ℕ → List Record
records_from b i zero = []
records_from b i (suc k) = record_at b (record_bytes * i) ∷ records_from b (suc i) k

-- all records in the bytes
unfoldable pub decode : List ℕ → List Record
decode b = records_from b 0 (length b / record_bytes)

-- the bytes of n records that start at start
unfoldable pub part : List ℕ → ℕ → ℕ → List ℕ
part b start n = take (record_bytes * n) (drop start b)
