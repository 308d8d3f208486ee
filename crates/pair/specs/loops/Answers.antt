-- The pair question of a trace whose clocks are filled. Assumes nothing.
use Rattle.std.specs.Prelude.{ℕ, ◌≡◌, List, length, Result}
use Rattle.records.specs.declared.Record.{Record}
use Rattle.trace.specs.Reply.{gives}
use Rattle.coverage.specs.Leading.{coveredb, entries}
use Rattle.trace.specs.declared.Refusal.{Refusal}
use Rattle.pair.specs.declared.Verdict.{Verdict}
use Rattle.races.specs.Traces.{setting_of}
use Rattle.pair.specs.Pair.{pair_paper, entries_given, answered, pair_filled, ListAfter}

-- of a race: the answer and the list space
pub record AnswersRace (tr : List Record) (a b : ℕ) (list list' : List ℕ) (r : Result Verdict Refusal) : Type 0 where
  pub answer : pair_paper r ≡ gives (answered (coveredb (setting_of tr) a b) (length (entries (setting_of tr) b)))
  pub list-after : ListAfter tr a b (gives (answered (coveredb (setting_of tr) a b) (length (entries (setting_of tr) b)))) (entries_given r) list list'

-- over clocks that are filled: the answer and the list space
pub record AnswersFilled (tr : List Record) (events a b : ℕ) (list list' : List ℕ) (r : Result Verdict Refusal) : Type 0 where
  pub answer : pair_paper r ≡ pair_filled tr events (length list) a b
  pub list-after : ListAfter tr a b (pair_filled tr events (length list) a b) (entries_given r) list list'
