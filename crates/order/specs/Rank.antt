-- The ranks of events: their places in the order of begin. Assumes nothing.
use Rattle.std.specs.Prelude.{ℕ, ◌+◌, cond, ◌&&◌, List, [], ◌∷◌, eqb, length}
use Rattle.records.specs.declared.Record.{Record}
use Rattle.records.specs.Records.{past, is_begin, begins}

-- The place of an event's begin among the begins, counted from 1; 0 where it has none. The records are those before some position, the latest first.
unfoldable pub rank_in : ℕ → List Record → ℕ
rank_in e [] = 0
rank_in e (r ∷ before) = cond (is_begin r && eqb r.first e) (begins before + 1) (rank_in e before)

unfoldable pub rank : List Record → ℕ → ℕ
rank tr e = rank_in e (past tr (length tr))
