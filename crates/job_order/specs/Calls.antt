-- The calls from C that read a trace: the numbers that each gives out, its result first, then those it stores, in the order of its parameters. The result
-- is the refusal's number, or 0; the numbers that a refused call has nothing for are 0. Assumes nothing.
use Rattle.std.specs.Prelude.{ℕ, ◌-◌, ◌≡◌, Bool, List, [], ◌∷◌, length}
use Rattle.records.specs.declared.Trace.{Trace}
use Rattle.trace.specs.Reply.{Reply, refused, gives}
use Rattle.trace.specs.Reading.{read_reply, records_read}
use Rattle.order.specs.Lent.{clocks_after, work_after, fill_ready, fill_reply}
use Rattle.clocks.specs.WayRound.{WayRound, same_action, first_before, second_before, unordered}
use Rattle.question.specs.Question.{order_reply}
use Rattle.races.specs.declared.Summary.{Summary}
use Rattle.races.specs.Lists.{pairs_of, list_ready, list_reply, list_after}
use Rattle.pair.specs.Pair.{PairMark, is_open, is_covered, pair_ready, pair_reply, ListAfter}
use Rattle.compactor.specs.declared.Slim.{Slim}
use Rattle.compactor.specs.Compact.{compact_reply, out_after}

-- result and place, then what is given, or zeros
abbrev pub numbers_of : {A : Type 0} → List ℕ → (A → List ℕ) → Reply A → List ℕ
numbers_of zeros given (refused n p) = n ∷ p ∷ zeros
numbers_of zeros given (gives a) = 0 ∷ 0 ∷ given a

-- result, place, start, records, events
abbrev pub read_numbers : Reply Trace → List ℕ
read_numbers reply = numbers_of (0 ∷ 0 ∷ 0 ∷ []) (λ t. t.start ∷ t.records ∷ t.events ∷ []) reply

pub record Reads (b : List ℕ) (number place start records events : ℕ) : Type 0 where
  pub given : number ∷ place ∷ start ∷ records ∷ events ∷ [] ≡ read_numbers (read_reply b)

-- result, place, chains
abbrev pub fill_numbers : Reply ℕ → List ℕ
fill_numbers reply = numbers_of (0 ∷ []) (λ chains. chains ∷ []) reply

pub record FillsOut (b : List ℕ) (width : ℕ) (clocks clocks' : List ℕ) (number place chains : ℕ) : Type 0 where
  pub given : number ∷ place ∷ chains ∷ [] ≡ fill_numbers (fill_reply b width (length clocks))
  pub clocks-after : clocks' ≡ clocks_after b (fill_ready b width (length clocks)) width clocks

-- result, place, the reply's number
abbrev pub way_number : WayRound → ℕ
way_number same_action = 1
way_number first_before = 2
way_number second_before = 3
way_number unordered = 4

abbrev pub order_numbers : Reply WayRound → List ℕ
order_numbers reply = numbers_of (0 ∷ []) (λ says. way_number says ∷ []) reply

pub record Answers (b : List ℕ) (width : ℕ) (clocks : List ℕ) (t u number place relation : ℕ) : Type 0 where
  pub given : number ∷ place ∷ relation ∷ [] ≡ order_numbers (order_reply b width clocks t u)

-- result, place, events, records, chains, count
abbrev pub list_numbers : Reply Summary → List ℕ
list_numbers reply = numbers_of (0 ∷ 0 ∷ 0 ∷ 0 ∷ []) (λ s. s.events ∷ s.records ∷ s.chains ∷ s.count ∷ []) reply

pub record ListsOut (short : Bool) (b : List ℕ) (width : ℕ) (clocks clocks' work work' list list' : List ℕ)
    (number place events records chains count : ℕ) : Type 0 where
  pub given : number ∷ place ∷ events ∷ records ∷ chains ∷ count ∷ [] ≡ list_numbers (list_reply short b width (length clocks) (length work) (length list))
  pub clocks-after : clocks' ≡ clocks_after b (list_ready b width (length clocks) (length work)) width clocks
  pub work-after : work' ≡ work_after (list_ready b width (length clocks) (length work)) work
  pub list-after : list' ≡ list_after (records_read b) (list_reply short b width (length clocks) (length work) (length list))
      (pairs_of (records_read b) short) list

-- result, place, covered (1 or 0), count: that of an open pair is settled, and that of a covered one goes with its cover, "Only one part is free"
abbrev pub mark_numbers : ℕ → PairMark → List ℕ
mark_numbers count (is_open k) = 0 ∷ k ∷ []
mark_numbers count is_covered = 1 ∷ count ∷ []

abbrev pub pair_numbers : Reply PairMark → ℕ → List ℕ
pair_numbers reply count = numbers_of (0 ∷ 0 ∷ []) (mark_numbers count) reply

pub record AsksPair (b : List ℕ) (width : ℕ) (clocks clocks' work work' list list' : List ℕ) (a c number place covered count : ℕ) : Type 0 where
  pub given : number ∷ place ∷ covered ∷ count ∷ [] ≡ pair_numbers (pair_reply b width (length clocks) (length work) (length list) a c) count
  pub clocks-after : clocks' ≡ clocks_after b (pair_ready b width (length clocks) (length work) a c) width clocks
  pub work-after : work' ≡ work_after (pair_ready b width (length clocks) (length work) a c) work
  pub list-after : ListAfter (records_read b) (a - 1) (c - 1) (pair_reply b width (length clocks) (length work) (length list) a c) count list list'

-- result, place, length, dropped
abbrev pub slim_numbers : Reply Slim → List ℕ
slim_numbers reply = numbers_of (0 ∷ 0 ∷ []) (λ s. s.length ∷ s.dropped ∷ []) reply

pub record CompactsOut (b out out' : List ℕ) (number place long dropped : ℕ) : Type 0 where
  pub given : number ∷ place ∷ long ∷ dropped ∷ [] ≡ slim_numbers (compact_reply b (length out))
  pub out-after : out' ≡ out_after b out
