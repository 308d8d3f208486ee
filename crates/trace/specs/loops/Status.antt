-- The status of each event, as a byte by event number: 0 nothing, 1 begun, 2 ended.
-- Assumes nothing.
use Rattle.std.specs.Prelude.{ℕ, Bool, cond, not, List, eqb, get_or, set}
use Rattle.records.specs.declared.Record.{Record}
use Rattle.records.specs.Records.{is_begin, is_end}

unfoldable pub has_begun : List ℕ → ℕ → Bool
has_begun m e = not (eqb (get_or m e 0) 0)

unfoldable pub has_ended : List ℕ → ℕ → Bool
has_ended m e = eqb (get_or m e 0) 2

-- after record r
unfoldable pub noted : List ℕ → Record → List ℕ
noted m r = cond (is_begin r) (set m r.first 1) (cond (is_end r) (set m r.first 2) m)
