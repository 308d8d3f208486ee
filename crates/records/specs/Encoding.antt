-- The bytes of a trace, from record 1 to the end of the trailer, and bytes with some of them written anew.
-- Assumes nothing.
use Rattle.std.specs.Prelude.{ℕ, ◌+◌, ◌*◌, ◌/◌, ◌%◌, ◌<◌, cond, List, [], ◌∷◌, ◌++◌, leb, length, get_or, take, drop}
use Rattle.records.specs.declared.Record.{Record}
use Rattle.records.specs.Bytes.{record_bytes}
use Rattle.records.specs.Records.{past, begins}

-- every element is a byte
abbrev pub Bytes : List ℕ → Type 0
Bytes b = (i : ℕ) → i < length b → get_or b i 0 < 256

-- "fields are unsigned, low byte first"
abbrev pub low : ℕ → ℕ
low x = x % 256

abbrev pub high : ℕ → ℕ
high x = x / 256 % 256

-- "A record is 5 bytes: kind (1 byte), first (2), second (2)."
unfoldable pub encode : List Record → List ℕ
encode [] = []
encode (r ∷ rest) = r.kind ∷ low r.first ∷ high r.first ∷ low r.second ∷ high r.second ∷ encode rest

-- "an 8-byte trailer that points back: distance in bytes from the trailer's start to record 1 (4 bytes), number of begins (2), edition 1 (1), mark hex A7 (1)"
unfoldable pub trailer : ℕ → ℕ → List ℕ
trailer d m = low d ∷ high d ∷ low (d / 65536) ∷ high (d / 65536) ∷ low m ∷ high m ∷ 1 ∷ 167 ∷ []

-- the one trace of a sequence of records, from record 1 on
unfoldable pub trace_of : List Record → List ℕ
trace_of tr = encode tr ++ trailer (record_bytes * length tr) (begins (past tr (length tr)))

-- the bytes with vs from p on, all others unchanged
unfoldable pub stored : List ℕ → ℕ → List ℕ → List ℕ
stored b p vs = take p b ++ vs ++ drop (p + length vs) b

-- the same where the bytes hold them all, else the bytes as they are
unfoldable pub stored_within : List ℕ → ℕ → List ℕ → List ℕ
stored_within b p vs = cond (leb (p + length vs) (length b)) (stored b p vs) b
