-- Small traces with sends: the direct predecessors of rows. Assumes nothing.
use Prim.Native.Nat.{ℕ}
use mathlib.Core.Path.{◌≡◌, refl}
use mathlib.Core.List.{List, [], ◌∷◌}
use Rattle.records.specs.declared.Record.{Record}
use Rattle.records.specs.Records.{past, begins}
use Rattle.coverage.specs.Below.{some, upto}
use Rattle.records.specs.Kinds.{same_link}
use Rattle.precedence.specs.Table.{ahead, some_target, sets, table}
use Rattle.order.specs.Schedule.{linked}
use Rattle.order.specs.Rank.{rank_in, rank}
use Rattle.order.specs.HappensBefore.{trace_links}
use Rattle.order.specs.LinkRule.{linking_of, linking_at, puts_behind, targets_at, behind}

abbrev rec : ℕ → ℕ → ℕ → Record
rec k a b = record { kind = k; first = a; second = b }

-- 1 sends to 2, then to 3, by kinds k and m; then 2 begins and ends, then 3
abbrev two : ℕ → ℕ → List Record
two k m = rec 1 1 0 ∷ rec k 1 2 ∷ rec m 1 3 ∷ rec 2 1 0 ∷ rec 1 2 0 ∷ rec 2 2 0 ∷ rec 1 3 0 ∷ rec 2 3 0 ∷ []

-- on one link the row of 2 is put before the row of 3
queued : (trace_links (two 16 16)).preds 2 ≡ (1 ∷ 0 ∷ [])
unfolding behind targets_at puts_behind linking_at linking_of linked rank rank_in begins past table sets some_target ahead some upto same_link
queued = refl

-- not before the row of 2 itself
first-sent : (trace_links (two 16 16)).preds 1 ≡ (0 ∷ [])
unfolding behind targets_at puts_behind linking_at linking_of linked rank rank_in begins past table sets some_target ahead some upto same_link
first-sent = refl

-- nor on two links
two-links : (trace_links (two 16 17)).preds 2 ≡ (0 ∷ [])
unfolding behind targets_at puts_behind linking_at linking_of linked rank rank_in begins past table sets some_target ahead some upto same_link
two-links = refl
