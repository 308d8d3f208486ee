-- The proved cases of document 01, "P marks a proved case": one list, and one theorem about the definitions.
-- Assumes nothing.
use Prim.Native.Nat.{ℕ, ◌-◌}
use mathlib.Core.Path.{◌≡◌, refl, sym, subst}
use mathlib.Core.Logic.{◌≢◌}
use mathlib.Core.Bool.{Bool, true, false, cond}
use mathlib.Core.List.{List, [], ◌∷◌, ◌++◌, map}
use lib.Dec
use lib.ListN.{replicate}
use Rattle.records.specs.declared.Record.{Record}
use Rattle.records.specs.declared.Trace.{Trace}
use Rattle.records.specs.Bytes.{record_at, records_from, decode, part}
use Rattle.records.specs.Records.{past, has, begun, ended}
use Rattle.records.specs.Records as records
use Rattle.records.specs.Kinds.{same_link, has_send}
use Rattle.precedence.specs.Table.{ahead, blocked_for, some_target}
use Rattle.trace.specs.Place.{place}
use Rattle.trace.specs.Rule.{situation, owner, numbered, well_formed, misplaced, again, early, judge, in_turn, rule}
use Rattle.trace.specs.Rule as rules
use Rattle.trace.specs.Reply.{Reply, refused, gives, demand, or_else, then, unless}
use Rattle.trace.specs.Reading.{closing, walk, distance, trailer_reply, frame_reply, records_in, read_reply, records_read}
use Rattle.records.specs.Encoding.{encode, trailer}
use Rattle.trace.proofs.Examples.{rec, records_t, exchanged, forked, one_cell, trailer_t}
use Rattle.clocks.specs.Rows.{space_for}
use Rattle.order.specs.Links.{within, along, leq}
use Rattle.order.specs.Links as links
use Rattle.order.specs.Chains.{first_from, pick, put, lasts, chain, used, needs}
use Rattle.order.specs.Clocks.{largest, table, flat, entry, clocks_of}
use Rattle.order.specs.Schedule.{linked}
use Rattle.order.specs.Rank.{rank_in, rank}
use Rattle.order.specs.LinkRule.{linking_of, linking_at, puts_behind, targets_at, behind}
use Rattle.order.specs.HappensBefore.{happens_before}
use Rattle.order.specs.Fill.{events_in, begin_position, row_past_width, chains_used, trace_clocks}
use Rattle.order.specs.Lent.{asking, spaces, spaced, enough_chains, on_clocks, clocks_filled, clocks_after, fill_ready, fill_reply}
use Rattle.coverage.specs.Below.{some, upto, pairs}
use Rattle.coverage.specs.Race.{before, raceb}
use Rattle.coverage.specs.Cover.{Covers, covers_fromb, coversb}
use Rattle.coverage.specs.Leading.{reach, leads, last_kept, entries}
use Rattle.coverage.specs.Neighbours.{conflicts, write_between, neighbour}
use Rattle.coverage.specs.Lists.{all_races, short_list}
use Rattle.coverage.proofs.Theorems.{covers-test}
use Rattle.races.specs.Traces.{setting_of}
use Rattle.races.specs.declared.Summary.{Summary}
use Rattle.races.specs.Lists as lists
use Rattle.races.specs.Lists.{pairs_of, shape_of, mark_of, numbers, list_filled, list_ready, list_reply, list_after}
use Rattle.pair.specs.Pair.{PairMark, is_open, is_covered, is_record, are_records, answered, pair_filled, pair_ready, pair_reply, kept_entries}

-- a question about some bytes
data Question : Type 0 where
  reads : Question
  fills : ℕ → ℕ → Question
  short_list_of : Question
  all_races_of : Question
  pair_of : ℕ → ℕ → Question

-- and its answer: a reply, with the numbers that it leaves
data Answer : Type 0 where
  read : Reply Trace → Answer
  filled : Reply ℕ → List ℕ → Answer
  listed : Reply Summary → List ℕ → Answer
  asked : Reply PairMark → List (ℕ × ℕ) → Answer

-- a race by number is one by position
abbrev position : ℕ × ℕ → ℕ × ℕ
position e = (e.0 - 1, e.1 - 1)

-- The entries of an answer about records x and y, by number. "Only one part is free, the cover given for a covered pair": there it is the expected
-- one where `coversb` says that it covers the pair, which by `covers-test` is that `Covers` holds; else an entry that no race has.
abbrev entries_of : List Record → ℕ → ℕ → List (ℕ × ℕ) → Reply PairMark → List (ℕ × ℕ)
entries_of tr x y cover (gives (is_open k)) = kept_entries tr (y - 1)
entries_of tr x y cover (refused k p) = []
entries_of tr x y cover (gives is_covered) = cond (coversb (setting_of tr) (map position cover) (x - 1) (y - 1)) cover ((0, 0) ∷ [])

-- such a cover is one by the literal definition
carried : (tr : List Record) (x y : ℕ) (cover : List (ℕ × ℕ)) → cover ≢ (0, 0) ∷ [] → entries_of tr x y cover (gives is_covered) ≡ cover
    → Covers (setting_of tr) (map position cover) (x - 1) (y - 1)
carried tr x y cover n e = go (coversb (setting_of tr) (map position cover) (x - 1) (y - 1)) refl e
  where
    go : (t : Bool) → coversb (setting_of tr) (map position cover) (x - 1) (y - 1) ≡ t → cond t cover ((0, 0) ∷ []) ≡ cover
        → Covers (setting_of tr) (map position cover) (x - 1) (y - 1)
    go true q i = (covers-test (setting_of tr) (map position cover) (x - 1) (y - 1)).0 (subst Dec.T (sym q) tt)
    go false q i = absurd (n (sym i))

abbrev no_list : List ℕ
no_list = replicate 10 0

-- lists over ten numbers of list space, all 0, with clocks and work space enough; pairs with spaces enough
abbrev list_of : List ℕ → Bool → Answer
list_of b short = listed (list_reply short b 4 12 3 10) (list_after (records_read b) (list_reply short b 4 12 3 10) (pairs_of (records_read b) short) no_list)

abbrev answer : List ℕ → List (ℕ × ℕ) → Question → Answer
answer b cover reads = read (read_reply b)
answer b cover (fills w k) = filled (fill_reply b w k) (clocks_after b (fill_ready b w k) w (replicate k 7))
answer b cover short_list_of = list_of b true
answer b cover all_races_of = list_of b false
answer b cover (pair_of x y) = asked (pair_reply b 4 12 3 30 x y) (entries_of (records_read b) x y cover (pair_reply b 4 12 3 30 x y))

record Case : Type 0 where
  bytes : List ℕ
  question : Question
  expected : Answer

abbrev case : List ℕ → Question → Answer → Case
case b q a = record { bytes = b; question = q; expected = a }

abbrev cover_in : Answer → List (ℕ × ℕ)
cover_in (asked r es) = es
cover_in (read r) = []
cover_in (filled r cs) = []
cover_in (listed r l) = []

-- what the definitions say
abbrev said : Case → Answer
said c = answer c.bytes (cover_in c.expected) c.question

-- event actions, records, chains used and entries
abbrev summary : ℕ → ℕ → ℕ → ℕ → Summary
summary events records chains count = record { events = events; records = records; chains = chains; count = count }

-- "trailer 0, 0, 1, hex A7"
abbrev bare : List ℕ
bare = 0 ∷ 0 ∷ 0 ∷ 0 ∷ 0 ∷ 0 ∷ 1 ∷ 167 ∷ []

abbrev T : List ℕ
T = encode records_t ++ trailer_t

abbrev exchanged_t : List ℕ
exchanged_t = encode exchanged ++ trailer_t

abbrev forked_t : List ℕ
forked_t = encode forked ++ trailer 65 3

abbrev one_cell_t : List ℕ
one_cell_t = encode one_cell ++ trailer_t

-- two event actions that nothing orders, which read one cell
abbrev only_reads : List ℕ
only_reads = encode (rec 1 1 0 ∷ rec 5 1 1 ∷ rec 2 1 0 ∷ rec 1 2 0 ∷ rec 5 2 1 ∷ rec 2 2 0 ∷ []) ++ trailer 30 2

cases : List Case
unfolding encode trailer
cases =
    -- "P no bytes: refusal 1, place 0."
    case [] reads (read (refused 1 0))
    -- "P trailer 0, 0, 1, hex A7: accepted, nothing listed."
    ∷ case bare reads (read (gives (record { start = 0; records = 0; events = 0; sends = false })))
    ∷ case bare short_list_of (listed (gives (summary 0 0 0 0)) no_list)
    ∷ case bare all_races_of (listed (gives (summary 0 0 0 0)) no_list)
    -- "P T, width 2: rows 1 0, 2 0, 1 1."
    ∷ case T (fills 2 7) (filled (gives 2) (1 ∷ 0 ∷ 2 ∷ 0 ∷ 1 ∷ 1 ∷ 7 ∷ []))
    -- "P width 1: refusal 23, place 9."
    ∷ case T (fills 1 7) (filled (refused 23 9) (0 ∷ 0 ∷ 0 ∷ 7 ∷ 7 ∷ 7 ∷ 7 ∷ []))
    -- "P T, pair 6 11: covered by 7 10."
    ∷ case T (pair_of 6 11) (asked (gives is_covered) ((7, 10) ∷ []))
    -- "P pair 7 10: open, kept (1, 4), (3, 10)."
    ∷ case T (pair_of 7 10) (asked (gives (is_open 2)) ((1, 4) ∷ (3, 10) ∷ []))
    -- "P pair 6 10: refusal 12."
    ∷ case T (pair_of 6 10) (asked (refused 12 0) [])
    -- "P T with the cells of 10 and 11 exchanged: 6 10 open, 7 11 covered."
    ∷ case exchanged_t all_races_of (listed (gives (summary 3 12 2 2)) (6 ∷ 10 ∷ 1 ∷ 2 ∷ 1 ∷ 7 ∷ 11 ∷ 2 ∷ 2 ∷ 0 ∷ []))
    ∷ case exchanged_t (pair_of 6 10) (asked (gives (is_open 2)) ((1, 4) ∷ (3, 10) ∷ []))
    ∷ case exchanged_t (pair_of 7 11) (asked (gives is_covered) ((6, 10) ∷ []))
    -- "P T with fork 2 3 after record 7: one chain, no pair."
    ∷ case forked_t (fills 2 6) (filled (gives 1) (1 ∷ 0 ∷ 2 ∷ 0 ∷ 3 ∷ 0 ∷ []))
    ∷ case forked_t all_races_of (listed (gives (summary 3 13 1 0)) no_list)
    -- "P T with 7 writing and 10 reading cell 1: short list 7 10 open, 7 11 covered; 6 10 is open too."
    ∷ case one_cell_t short_list_of (listed (gives (summary 3 12 2 2)) (7 ∷ 10 ∷ 1 ∷ 2 ∷ 1 ∷ 7 ∷ 11 ∷ 1 ∷ 2 ∷ 0 ∷ []))
    ∷ case one_cell_t (pair_of 7 10) (asked (gives (is_open 2)) ((1, 4) ∷ (3, 10) ∷ []))
    ∷ case one_cell_t (pair_of 7 11) (asked (gives is_covered) ((7, 10) ∷ []))
    ∷ case one_cell_t (pair_of 6 10) (asked (gives (is_open 2)) ((1, 4) ∷ (3, 10) ∷ []))
    -- "P only reads of a cell: no race."
    ∷ case only_reads all_races_of (listed (gives (summary 2 6 2 0)) no_list)
    ∷ []

hold : map said cases ≡ map (λ (c : Case). c.expected) cases
unfolding cases encode trailer record_at records_from decode past has begun ended records.begins place situation owner numbered well_formed misplaced again early
    judge rule demand or_else then unless closing walk distance trailer_reply frame_reply part records_in read_reply records_read within along leq links.some
    first_from pick put lasts chain used needs largest table flat entry clocks_of linked rank_in rank
    behind targets_at puts_behind ahead same_link linking_of linking_at happens_before events_in
    begin_position row_past_width chains_used trace_clocks space_for asking spaces spaced enough_chains on_clocks clocks_filled clocks_after fill_ready fill_reply some upto pairs
    before raceb covers_fromb reach leads last_kept entries conflicts write_between neighbour all_races short_list pairs_of shape_of mark_of
    lists.entry numbers list_filled list_ready list_reply list_after is_record are_records answered pair_filled pair_ready
    pair_reply kept_entries has_send rules.behind in_turn blocked_for some_target
hold = refl
