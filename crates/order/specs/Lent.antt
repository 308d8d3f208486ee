-- The calls on clocks: what each asks of the trace and of what it is lent, in order, and how the clocks and the work space are left.
-- Assumes nothing.
use Rattle.std.specs.Prelude.{ℕ, ◌+◌, ◌*◌, Bool, true, List, ◌++◌, leb, eqb, drop, replicate}
use Rattle.records.specs.declared.Record.{Record}
use Rattle.records.specs.declared.Trace.{Trace}
use Rattle.trace.specs.Reply.{Reply, gives, demand, then, unless}
use Rattle.trace.specs.Reading.{records_in, read_reply}
use Rattle.clocks.specs.Rows.{space_for}
use Rattle.order.specs.Fill.{begin_position, row_past_width, chains_used, chain_table, no_chains, trace_clocks}

-- "11: an event asked about has no begin in the trace, or a record asked about is not in it.": the reading of a call that asks about some, and the
-- test whether they are there
unfoldable pub asking : List ℕ → (Trace → Bool) → Reply Trace
asking b there = then (read_reply b) (λ t. demand (there t) 11 0 (gives t))

-- "22: lists and the pair question only, work space shorter in bytes than the number of event actions."
abbrev pub work_for : ℕ → ℕ → Bool
work_for work events = leb events work

-- for all other calls
abbrev pub no_work : ℕ → Bool
no_work events = true

-- the spaces lent for so many event actions: "21: clock width not 1 to 1,024, or clock space shorter than event actions × width.", then 22, by the
-- test of the work space
unfoldable pub spaces : {A : Type 0} → ℕ → ℕ → ℕ → Bool → Reply A → Reply A
spaces events width clocks work next = demand (space_for width events clocks) 21 0 (demand work 22 0 next)

-- the trace that a call goes on with, from what was found
unfoldable pub spaced : Reply Trace → ℕ → ℕ → (ℕ → Bool) → Reply Trace
spaced found width clocks work = then found (λ t. spaces t.events width clocks (work t.events) (gives t))

-- "23: the chain rule needs more chains than the width; place is the begin that needs one"
unfoldable pub enough_chains : {A : Type 0} → List Record → ℕ → ℕ → Reply A → Reply A
enough_chains tr events width next = demand (eqb (row_past_width tr width) events) 23 (begin_position tr (row_past_width tr width) + 1) next

-- a call's reply: the trace that it goes on with, 23, and what it answers of that trace
unfoldable pub on_clocks : {A : Type 0} → List ℕ → Reply Trace → ℕ → (Trace → Reply A) → Reply A
on_clocks b ready width next = then ready (λ t. enough_chains (records_in b t) t.events width (next t))

-- The lent clocks at the end: the rows, or, after 23, "The first event actions × width clocks are then 0"
unfoldable pub clocks_filled : List Record → ℕ → ℕ → List ℕ → List ℕ
clocks_filled tr events width clocks =
    unless (enough_chains tr events width (gives (chains_used tr))) (replicate (events * width) 0) (λ k. trace_clocks tr width) ++ drop (events * width) clocks

-- so too after 12 and 24: "The clocks stay filled."; else "lent memory is unchanged"
unfoldable pub clocks_after : List ℕ → Reply Trace → ℕ → List ℕ → List ℕ
clocks_after b ready width clocks = unless ready clocks (λ t. clocks_filled (records_in b t) t.events width clocks)

-- "After any call that passes 22 the work space is 0 over one byte per event action"
unfoldable pub work_after : Reply Trace → List ℕ → List ℕ
work_after ready work = unless ready work (λ t. replicate t.events 0 ++ drop t.events work)

-- the chain of each row, where the clocks are filled
unfoldable pub chains_filled : List Record → ℕ → ℕ → List ℕ
chains_filled tr events width = unless (enough_chains tr events width (gives (chains_used tr))) no_chains (λ k. chain_table tr)

-- Filling: its trace, and its reply, "chains used".
unfoldable pub fill_ready : List ℕ → ℕ → ℕ → Reply Trace
fill_ready b width clocks = spaced (read_reply b) width clocks no_work

unfoldable pub fill_reply : List ℕ → ℕ → ℕ → Reply ℕ
fill_reply b width clocks = on_clocks b (fill_ready b width clocks) width (λ t. gives (chains_used (records_in b t)))
