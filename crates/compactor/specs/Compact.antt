-- The compactor's reply, and the lent bytes at its end. Assumes nothing.
use Rattle.std.specs.Prelude.{ℕ, ◌≡◌, List, ◌++◌, Result, leb, length, drop}
use Rattle.records.specs.declared.Record.{Record}
use Rattle.records.specs.Encoding.{trace_of}
use Rattle.trace.specs.declared.Refusal.{Refusal}
use Rattle.trace.specs.Reply.{Reply, gives, demand, then, unless}
use Rattle.trace.specs.Paper.{paper}
use Rattle.trace.specs.Reading.{records_in, read_reply, records_read}
use Rattle.compactor.specs.declared.Slim.{Slim}
use Rattle.compactor.specs.SlimTrace.{slim_of, dropped_in}

abbrev pub compact_paper : Result Slim Refusal → Reply Slim
compact_paper = paper

-- the bytes of the slim trace of the records tr
abbrev pub slim_bytes : List Record → List ℕ
slim_bytes tr = trace_of (slim_of tr)

-- "It gives the number of records dropped."; "Output space too short for the result is refusal 24."
unfoldable pub compact_trace : List Record → ℕ → Reply Slim
compact_trace tr space = demand (leb (length (slim_bytes tr)) space) 24 0 (gives (record { length = length (slim_bytes tr); dropped = dropped_in tr }))

unfoldable pub compact_reply : List ℕ → ℕ → Reply Slim
compact_reply b space = then (read_reply b) (λ t. compact_trace (records_in b t) space)

-- "A compactor writes a second trace, nothing before its record 1": from the first byte on; after a refusal and past the slim trace the bytes are as before
unfoldable pub out_after : List ℕ → List ℕ → List ℕ
out_after b out = unless (compact_reply b (length out)) out (λ s. slim_bytes (records_read b) ++ drop s.length out)

-- the promise of the compactor: the answer, and the lent bytes
pub record Compacts (b out out' : List ℕ) (r : Result Slim Refusal) : Type 0 where
  pub answer : compact_paper r ≡ compact_reply b (length out)
  pub out-after : out' ≡ out_after b out
