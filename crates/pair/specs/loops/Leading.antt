-- The marks of the event actions that lead to b, one for each in order of begin. Assumes nothing.
use Rattle.std.specs.Prelude.{ℕ, ◌<◌, ◌≡◌, Bool, true, false, cond, List, [], ◌∷◌, ◌++◌, length, drop}
use Rattle.records.specs.declared.Record.{Record}
use Rattle.records.specs.Records.{past, is_begin}
use Rattle.trace.specs.Reading.{Acceptable}
use Rattle.ranks.specs.Ranks.{ranks_of}
use Rattle.coverage.specs.Leading.{leads}
use Rattle.races.specs.Traces.{setting_of}
use Rattle.races.specs.loops.FilledClocks.{rows}

abbrev pub mark : Bool → ℕ
mark true = 1
mark false = 0

-- the marks of the events that begin among the records, the latest first, by what a test says of each event
unfoldable pub marks_in : (ℕ → Bool) → List Record → List ℕ
marks_in test [] = []
marks_in test (r ∷ before) = cond (is_begin r) (marks_in test before ++ mark (test r.first) ∷ []) (marks_in test before)

-- "each other event action t from which happens-before and races lead to b: t ≼ ev(b), or some races meet the conditions of cover with t for ev(a)"
unfoldable pub leading_marks : List Record → ℕ → List ℕ
leading_marks tr b = marks_in (leads (setting_of tr) b) (past tr (length tr))

-- the event actions that lead to b are marked
pub record Marks (tr : List Record) (ranks work : List ℕ) (b : ℕ) : Type 0 where
  pub acceptable : Acceptable tr
  pub ranks_are : ranks ≡ ranks_of tr
  pub inside : b < length tr
  pub work_is : work ≡ leading_marks tr b ++ drop (rows tr) work
