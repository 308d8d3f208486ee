-- A list of a trace whose clocks are filled. Assumes nothing.
use Rattle.std.specs.Prelude.{ℕ, ◌≡◌, Bool, List, length, Result}
use Rattle.records.specs.declared.Record.{Record}
use Rattle.trace.specs.declared.Refusal.{Refusal}
use Rattle.races.specs.declared.Summary.{Summary}
use Rattle.races.specs.Lists.{pairs_of, list_filled, list_after}
use Rattle.races.specs.Paper.{list_paper}

-- the same of a trace whose clocks are filled
pub record ListsFilled (short : Bool) (tr : List Record) (events : ℕ) (clocks clocks' list list' : List ℕ) (r : Result Summary Refusal) : Type 0 where
  pub answer : list_paper r ≡ list_filled short tr events (length list)
  pub clocks-after : clocks' ≡ clocks
  pub list-after : list' ≡ list_after tr (list_filled short tr events (length list)) (pairs_of tr short) list
