-- Document 01's numbers and values for each case of the answers, and the promises of the lists. Assumes nothing.
use Rattle.std.specs.Prelude.{ℕ, ◌≡◌, Bool, List, Result, length}
use Rattle.trace.specs.declared.Refusal.{Refusal}
use Rattle.trace.specs.Reply.{Reply}
use Rattle.trace.specs.Paper.{paper}
use Rattle.trace.specs.Reading.{records_read}
use Rattle.order.specs.Lent.{clocks_after, work_after}
use Rattle.races.specs.declared.Summary.{Summary}
use Rattle.races.specs.Lists.{pairs_of, list_ready, list_reply, list_after}

abbrev pub list_paper : Result Summary Refusal → Reply Summary
list_paper = paper

-- a list, short or of all races: the answer and the lent clocks, work space and list space
pub record Lists (short : Bool) (b : List ℕ) (width : ℕ) (clocks clocks' work work' list list' : List ℕ) (r : Result Summary Refusal) : Type 0 where
  pub answer : list_paper r ≡ list_reply short b width (length clocks) (length work) (length list)
  pub clocks-after : clocks' ≡ clocks_after b (list_ready b width (length clocks) (length work)) width clocks
  pub work-after : work' ≡ work_after (list_ready b width (length clocks) (length work)) work
  pub list-after : list' ≡ list_after (records_read b) (list_reply short b width (length clocks) (length work) (length list))
      (pairs_of (records_read b) short) list
