-- Ranks by event number, as a list. Assumes nothing.
use Rattle.std.specs.Prelude.{ℕ, zero, suc, ◌+◌, ◌%◌, Bool, true, false, List, length, set}
use Rattle.slices.specs.Slices.{zeros}
use Rattle.records.specs.declared.Record.{Record}
use Rattle.records.specs.Records.{at, past, is_begin, begins}

abbrev pub no_ranks : List ℕ
no_ranks = zeros 1025

unfoldable pub with_rank : List ℕ → ℕ → ℕ → List ℕ
with_rank m e k = set m e (k % 65536)

abbrev pub rank_if : Bool → List ℕ → ℕ → ℕ → List ℕ
rank_if true m e k = with_rank m e k
rank_if false m e k = m

-- the ranks after the first i records
unfoldable pub ranks_upto : List Record → ℕ → List ℕ
ranks_upto tr zero = no_ranks
ranks_upto tr (suc i) = rank_if (is_begin (at tr i)) (ranks_upto tr i) (at tr i).first (begins (past tr i) + 1)

unfoldable pub ranks_of : List Record → List ℕ
ranks_of tr = ranks_upto tr (length tr)
