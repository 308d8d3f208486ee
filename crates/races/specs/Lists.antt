-- The two lists: their entries, their reply, and the lent memory at their end. Assumes nothing.
use Rattle.std.specs.Prelude.{ℕ, ◌+◌, ◌*◌, ◌/◌, Bool, true, false, cond, List, [], ◌∷◌, ◌++◌, leb, length, drop}
use Rattle.records.specs.declared.Record.{Record}
use Rattle.records.specs.declared.Trace.{Trace}
use Rattle.records.specs.Records.{at, is_write}
use Rattle.trace.specs.Reply.{Reply, gives, demand, unless}
use Rattle.trace.specs.Reading.{records_in, read_reply}
use Rattle.order.specs.Fill.{chains_used}
use Rattle.order.specs.Lent.{work_for, spaced, on_clocks}
use Rattle.coverage.specs.Leading.{coveredb}
use Rattle.coverage.specs.Lists.{all_races, short_list}
use Rattle.races.specs.declared.Summary.{Summary}
use Rattle.races.specs.Traces.{cells_of, setting_of}

-- "An entry of either has first, second, cell, shape and mark."
abbrev pub entry_numbers : ℕ
entry_numbers = 5

module _ (tr : List Record) where
  -- the pairs (first, second) of the short list, or of "the list of all races"
  unfoldable pub pairs_of : Bool → List (ℕ × ℕ)
  pairs_of true = short_list (setting_of tr) (cells_of tr)
  pairs_of false = all_races (setting_of tr)

  -- "shape (ww, wr or rw, first access then second)": 1, 2, 3
  unfoldable pub shape_of : ℕ → ℕ → ℕ
  shape_of a b = cond (is_write (at tr a)) (cond (is_write (at tr b)) 1 2) 3

  -- "mark (open or covered)": 1, 0
  unfoldable pub mark_of : ℕ → ℕ → ℕ
  mark_of a b = cond (coveredb (setting_of tr) a b) 0 1

  -- the same sentence, as numbers; records are numbered from 1
  unfoldable pub entry : ℕ → ℕ → List ℕ
  entry a b = (a + 1) ∷ (b + 1) ∷ (at tr b).second ∷ shape_of a b ∷ mark_of a b ∷ []

  unfoldable pub numbers : List (ℕ × ℕ) → List ℕ
  numbers [] = []
  numbers ((a, b) ∷ ps) = entry a b ++ numbers ps

-- "24: list space too short: fewer entries than the list has"
abbrev pub list_for : ℕ → ℕ → Bool
list_for count list = leb count (list / entry_numbers)

-- a trace of that many event actions whose clocks are filled: 24
unfoldable pub list_filled : Bool → List Record → ℕ → ℕ → Reply Summary
list_filled short tr events list =
    demand (list_for (length (pairs_of tr short)) list) 24 0
    (gives (record { events = events; records = length tr; chains = chains_used tr; count = length (pairs_of tr short) }))

-- the trace that a list goes on with: 1 to 10, 21, 22
unfoldable pub list_ready : List ℕ → ℕ → ℕ → ℕ → Reply Trace
list_ready b width clocks work = spaced (read_reply b) width clocks (work_for work)

-- then 23, 24
unfoldable pub list_reply : Bool → List ℕ → ℕ → ℕ → ℕ → ℕ → Reply Summary
list_reply short b width clocks work list =
    on_clocks b (list_ready b width clocks work) width (λ t. list_filled short (records_in b t) t.events list)

-- the list space at the end: "list entries past the count and all other bytes are unchanged"
unfoldable pub list_after : List Record → Reply Summary → List (ℕ × ℕ) → List ℕ → List ℕ
list_after tr reply ps list = unless reply list (λ s. numbers tr ps ++ drop (entry_numbers * length ps) list)
