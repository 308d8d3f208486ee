-- Beside the proved cases of document 01: T's short list, the refusals of the pair question in their order, and that the pair 6 11 of T has one
-- cover. Assumes nothing.
use Prim.Native.Nat.{ℕ}
use mathlib.Core.Bool.{true}
use mathlib.Core.Path.{◌≡◌, refl, ap, subst}
use mathlib.Core.Logic.{◌⊎◌, inl, inr}
use mathlib.Core.List.Memᴰ
use mathlib.Core.List.{List, [], ◌∷◌, map}
use lib.Dec.{T}
use Rattle.records.specs.Bytes.{record_at, records_from, decode, part}
use Rattle.records.specs.Records.{at, event_of, past, has, begun, ended, begins}
use Rattle.records.specs.Kinds.{same_link}
use Rattle.precedence.specs.Table.{ahead, blocked_for, some_target}
use Rattle.trace.specs.Place.{place}
use Rattle.trace.specs.Rule.{situation, owner, numbered, well_formed, misplaced, again, early, judge, in_turn, rule}
use Rattle.trace.specs.Rule as rules
use Rattle.trace.specs.Reply.{Reply, refused, demand, or_else, then}
use Rattle.trace.specs.Reading.{closing, walk, distance, trailer_reply, frame_reply, records_in, read_reply}
use Rattle.records.specs.Encoding.{encode, trailer, trace_of}
use Rattle.trace.proofs.Examples.{records_t}
use Rattle.clocks.specs.Rows.{space_for}
use Rattle.order.specs.Links.{within, along, some, leq}
use Rattle.order.specs.Schedule.{linked}
use Rattle.order.specs.Rank.{rank_in, rank}
use Rattle.order.specs.LinkRule.{linking_of, linking_at, puts_behind, targets_at, behind}
use Rattle.order.specs.HappensBefore.{happens_before}
use Rattle.order.specs.Chains.{first_from, pick, put, lasts, chain, needs}
use Rattle.order.specs.Fill.{events_in, begin_position, row_past_width}
use Rattle.order.specs.Lent.{asking, spaced, enough_chains, on_clocks}
use Rattle.order.specs.Lent as lent
use Rattle.coverage.specs.Below as below
use Rattle.coverage.specs.Race.{before, Race, raceb}
use Rattle.coverage.specs.Neighbours.{conflicts, write_between, neighbour}
use Rattle.coverage.specs.Leading.{reach, leads, last_kept, entries}
use Rattle.coverage.specs.Below.{Listed}
use Rattle.coverage.specs.Cover.{Covers, CoversFrom, one, more}
use Rattle.coverage.specs.Lists.{all_races, short_list}
use Rattle.coverage.proofs.Pairs.{in_all}
use Rattle.races.specs.Traces.{setting_of}
use Rattle.races.specs.Lists.{pairs_of, shape_of, mark_of, entry, numbers}
use Rattle.pair.specs.Pair.{PairMark, is_record, are_records, answered, pair_filled, pair_ready, pair_reply}
use Rattle.pair.specs.Pair.{kept_entries}

-- a question about T: width, clock space, work space, list space, and two records by number
pub record Asked : Type 0 where
  pub width : ℕ
  pub clocks : ℕ
  pub work : ℕ
  pub list : ℕ
  pub first : ℕ
  pub second : ℕ

-- with its reply
pub record Case : Type 0 where
  pub asked : Asked
  pub reply : Reply PairMark

abbrev spaces : ℕ → ℕ → ℕ → ℕ → ℕ → ℕ → Asked
spaces width clocks work list a b = record { width = width; clocks = clocks; work = work; list = list; first = a; second = b }

abbrev given : Asked → Reply PairMark → Case
given q r = record { asked = q; reply = r }

-- what the definitions say
abbrev said : Asked → Reply PairMark
said q = pair_reply (trace_of records_t) q.width q.clocks q.work q.list q.first q.second

abbrev pub cases : List Case
cases =
    given (spaces 2 6 3 6 10 7) (refused 12 0)
    ∷ given (spaces 2 6 3 6 0 10) (refused 11 0)
    ∷ given (spaces 0 0 0 0 7 13) (refused 11 0)
    ∷ given (spaces 0 6 0 0 7 10) (refused 21 0)
    ∷ given (spaces 2 5 0 0 7 10) (refused 21 0)
    ∷ given (spaces 1 3 2 0 7 10) (refused 22 0)
    ∷ given (spaces 1 3 3 0 6 10) (refused 23 9)
    ∷ given (spaces 2 6 3 0 6 10) (refused 12 0)
    ∷ given (spaces 2 6 3 5 7 10) (refused 24 0)
    ∷ []

-- every case gets the reply that it expects
pub hold : map (λ (c : Case). said c.asked) cases ≡ map (λ (c : Case). c.reply) cases
unfolding encode trailer trace_of record_at records_from decode past has begun ended begins place situation owner numbered well_formed misplaced again early judge
    rule demand or_else then closing walk distance trailer_reply frame_reply part records_in read_reply first_from pick put lasts chain needs
    events_in begin_position row_past_width space_for asking lent.spaces spaced enough_chains on_clocks is_record are_records answered pair_filled pair_ready pair_reply kept_entries entries last_kept
    below.upto leads reach below.some raceb before conflicts happens_before rank rank_in
    behind targets_at puts_behind ahead same_link linking_at linking_of linked leq along within some rules.behind in_turn blocked_for some_target
hold = refl

-- "7 10 2 wr open", "6 11 1 wr covered"
pub short-list-T : numbers records_t (pairs_of records_t true) ≡ 7 ∷ 10 ∷ 2 ∷ 2 ∷ 1 ∷ 6 ∷ 11 ∷ 1 ∷ 2 ∷ 0 ∷ []
unfolding numbers entry shape_of mark_of pairs_of short_list neighbour write_between below.pairs below.upto leads reach below.some raceb before conflicts
    happens_before rank rank_in behind targets_at puts_behind ahead same_link linking_at linking_of linked leq along within some past begins
short-list-T = refl

-- "T, pair 6 11: covered by 7 10": that is its one cover, by position
races-T : all_races (setting_of records_t) ≡ (6, 9) ∷ (5, 10) ∷ []
unfolding all_races below.pairs below.upto raceb before conflicts happens_before rank rank_in
    behind targets_at puts_behind ahead same_link linking_at linking_of linked leq along within some past begins below.some
races-T = refl

abbrev Either : ℕ → ℕ → Type 0
Either c d = (◌≡◌ {A = ℕ × ℕ} (c, d) (6, 9)) ⊎ (◌≡◌ {A = ℕ × ℕ} (c, d) (5, 10))

only-races : (c d : ℕ) → Race (setting_of records_t) c d → Either c d
only-races c d r = go (rw races-T at ((in_all (setting_of records_t) c d).1 r))
  where
    go : Listed c d ((6, 9) ∷ (5, 10) ∷ []) → Either c d
    go (Memᴰ.head e) = inl e
    go (Memᴰ.tail (Memᴰ.head e)) = inr e
    go (Memᴰ.tail (Memᴰ.tail m)) = absurd (Memᴰ.not-nil m)

-- its second record is of the third event action, and its first is not
second-third : {c d : ℕ} → Either c d → event_of (at records_t d) ≡ 3
second-third (inl e) = ap (λ (p : ℕ × ℕ). event_of (at records_t p.1)) e
second-third (inr e) = ap (λ (p : ℕ × ℕ). event_of (at records_t p.1)) e

not_third : {c d : ℕ} → Either c d → T (happens_before records_t 3 (event_of (at records_t c))) → ⊥
unfolding happens_before rank rank_in behind targets_at puts_behind ahead same_link linking_at linking_of linked leq along within some past begins
    below.some below.upto
not_third (inl e) h = subst (λ (p : ℕ × ℕ). T (happens_before records_t 3 (event_of (at records_t p.0)))) e h
not_third (inr e) h = subst (λ (p : ℕ × ℕ). T (happens_before records_t 3 (event_of (at records_t p.0)))) e h

no_more : {cs : List (ℕ × ℕ)} → CoversFrom (setting_of records_t) 10 3 cs → ⊥
no_more (one {c = c} {d = d} h r q) = not_third (only-races c d r) h
no_more (more {c = c} {d = d} h r k) = not_third (only-races c d r) h

pub only-cover : {cs : List (ℕ × ℕ)} → Covers (setting_of records_t) cs 5 10 → cs ≡ (6, 9) ∷ []
unfolding before
only-cover (one {c = c} {d = d} h r q) = go (only-races c d r)
  where
    go : Either c d → ◌≡◌ {A = List (ℕ × ℕ)} ((c, d) ∷ []) ((6, 9) ∷ [])
    go (inl e) = ap (λ (p : ℕ × ℕ). p ∷ []) e
    go (inr e) = absurd (subst (λ (p : ℕ × ℕ). T (before (setting_of records_t) p.1 10)) e q)
only-cover (more {c = c} {d = d} {cs = cs} h r k) = absurd (no_more (subst (λ (u : ℕ). CoversFrom (setting_of records_t) 10 u cs) (second-third (only-races c d r)) k))
