-- Document 01's numbers and values for each case of the answers, and the promises of the public functions. Assumes nothing.
use Rattle.std.specs.Prelude.{ℕ, ◌≡◌, List, Result, length}
use Rattle.records.specs.declared.Trace.{Trace}
use Rattle.trace.specs.declared.Refusal.{Refusal}
use Rattle.ranks.specs.Ranks.{ranks_of}
use Rattle.trace.specs.Reply.{Reply, gives, unless}
use Rattle.trace.specs.Paper.{paper}
use Rattle.trace.specs.Reading.{records_in}
use Rattle.order.specs.Fill.{chains_used, no_chains}
use Rattle.order.specs.Lent.{on_clocks, clocks_after, chains_filled, fill_ready, fill_reply}
use Rattle.order.specs.Prepare.{no_trace}

abbrev pub fill_paper : Result ℕ Refusal → Reply ℕ
fill_paper = paper

-- filling: the answer and the lent clocks
pub record Fills (b : List ℕ) (width : ℕ) (clocks clocks' : List ℕ) (r : Result ℕ Refusal) : Type 0 where
  pub answer : fill_paper r ≡ fill_reply b width (length clocks)
  pub clocks-after : clocks' ≡ clocks_after b (fill_ready b width (length clocks)) width clocks

-- filling for a call that goes on with the trace `ready`: the answer, the trace that it gets, the lent clocks, the chain of each row, and the
-- ranks of all events
pub record Prepares (b : List ℕ) (ready : Reply Trace) (width : ℕ) (clocks clocks' chosen' ranks ranks' : List ℕ)
    (r : Result ℕ Refusal) (t : Trace) : Type 0 where
  pub answer : fill_paper r ≡ on_clocks b ready width (λ t. gives (chains_used (records_in b t)))
  pub trace_is : t ≡ unless ready no_trace (λ t. t)
  pub clocks-after : clocks' ≡ clocks_after b ready width clocks
  pub chains_after : chosen' ≡ unless ready no_chains (λ t. chains_filled (records_in b t) t.events width)
  pub ranks_after : ranks' ≡ unless ready ranks (λ t. ranks_of (records_in b t))
