-- How the entries of the pair question are found. Definitions alone. Assumes nothing.
use Rattle.std.specs.Prelude.{ℕ, ◌+◌, ◌*◌, ◌≤◌, ◌<◌, ◌≡◌, ◌≢◌, Bool, ◌&&◌, List, ◌++◌, map, T, eqb, leb, length, get_or, set, Option, None, Some}
use Rattle.records.specs.declared.Record.{Record}
use Rattle.records.specs.Records.{at, event_of}
use Rattle.clocks.specs.WayRound.{WayRound, way_round, relate_in, says_unordered, says_before}
use Rattle.order.specs.Rank.{rank}
use Rattle.order.specs.HappensBefore.{happens_before}
use Rattle.coverage.specs.Below.{upto}
use Rattle.coverage.specs.Race.{before, Race, raceb}
use Rattle.coverage.specs.Cover.{CoversFrom}
use Rattle.coverage.specs.Leading.{leads, last_kept}
use Rattle.races.specs.Traces.{setting_of}
use Rattle.pair.specs.loops.Kept.{row_of}
use Rattle.pair.specs.loops.Leading.{Marks}
use Rattle.pair.specs.Pair.{entry_numbers, with_entries, race_entries}

-- the entries of an open pair from the records before i: the event, and the last record kept by its number
abbrev pub entry_at : List Record → ℕ → ℕ × ℕ
entry_at tr i = (event_of (at tr i), i + 1)

unfoldable pub kept_below : List Record → ℕ → ℕ → List (ℕ × ℕ)
kept_below tr b i = map (entry_at tr) (upto i (last_kept (setting_of tr) b))

-- the entry of an event action that ends at record i is written where its mark is 1
pub record PutsEnd (tr : List Record) (byte i k : ℕ) (list list' : List ℕ) (r : ℕ) : Type 0 where
  pub put : byte ≡ 1 → (r ≡ k + 1) × (list' ≡ set (set list (entry_numbers * k) (event_of (at tr i))) (entry_numbers * k + 1) (i + 1))
  pub skipped : byte ≢ 1 → (r ≡ k) × (list' ≡ list)

-- record c races with record d, and the event action of t happens before that of c
unfoldable pub races_from : List Record → ℕ → ℕ → ℕ → Bool
races_from tr t c d = raceb (setting_of tr) c d && happens_before tr (event_of (at tr t)) (event_of (at tr c))

-- the event action of d leads to b, and from lo on c is the first record that so races with d; where there is none, c is d or above
pub record First (tr : List Record) (b lo t d c : ℕ) : Type 0 where
  pub found : c < d → T (leads (setting_of tr) b (event_of (at tr d))) × T (races_from tr t c d)
  pub none : d ≤ c → (x : ℕ) → lo ≤ x → T (leads (setting_of tr) b (event_of (at tr d))) → T (races_from tr t x d) → ⊥

-- no record from lo on, before c, so races with d, from an event action of row t
abbrev pub NoneFrom : List Record → ℕ → ℕ → ℕ → ℕ → Type 0
NoneFrom tr t lo d c = (x y : ℕ) → x < length tr → row_of tr x ≡ t → lo ≤ y → y < c → T (races_from tr x y d) → ⊥

-- c is the first that so races with d, from an event action of row t, whatever b the marks are for
abbrev pub FirstFrom : List Record → List ℕ → List ℕ → ℕ → ℕ → ℕ → ℕ → Type 0
FirstFrom tr ranks work lo t d c = (b x : ℕ) → Marks tr ranks work b → x < length tr → row_of tr x ≡ t → First tr b lo x d c

-- what the search for it gives
abbrev pub FirstIs : List Record → List ℕ → List ℕ → ℕ → ℕ → ℕ → Option ℕ → Type 0
FirstIs tr ranks work lo t d None = FirstFrom tr ranks work lo t d d
FirstIs tr ranks work lo t d (Some c) = (c < d) × FirstFrom tr ranks work lo t d c

-- which way round the event actions of records a and b stand
abbrev pub way_of : List Record → ℕ → ℕ → WayRound
way_of tr a b = way_round (eqb (event_of (at tr a)) (event_of (at tr b))) (happens_before tr (event_of (at tr a)) (event_of (at tr b)))
    (happens_before tr (event_of (at tr b)) (event_of (at tr a)))

-- a record of that kind is no send, its row c is unordered with row d, and row t happens before it or is it
unfoldable pub goes_on : List ℕ → ℕ → List ℕ → ℕ → ℕ → ℕ → ℕ → Bool
goes_on chosen width clocks kind t c d = leb kind 6 && (says_unordered (relate_in clocks width c (get_or chosen c 0) d (get_or chosen d 0))
    && says_before (relate_in clocks width t (get_or chosen t 0) c (get_or chosen c 0)))

-- no record before d has such a race
abbrev pub NoRace : List Record → ℕ → ℕ → ℕ → ℕ → Type 0
NoRace tr b lo t d = (x y : ℕ) → lo ≤ x → y < d → T (leads (setting_of tr) b (event_of (at tr y))) → T (races_from tr t x y) → ⊥

-- the next race of a cover, from the event action of t on
pub record Next (tr : List Record) (b t c d : ℕ) : Type 0 where
  pub race : Race (setting_of tr) c d
  pub above : T (happens_before tr (event_of (at tr t)) (event_of (at tr c)))
  pub below : d < b
  pub leading : T (leads (setting_of tr) b (event_of (at tr d)))

-- t leads to b, and not by happens-before
pub record Sought (tr : List Record) (b t : ℕ) : Type 0 where
  pub below : t < b
  pub leading : T (leads (setting_of tr) b (event_of (at tr t)))
  pub apart : T (happens_before tr (event_of (at tr t)) (event_of (at tr b))) → ⊥

-- A cover of (a, b) written as far as the event action of t: what comes after makes it whole, or it is whole where t is before b.
pub record Written (tr : List Record) (a b t k : ℕ) (entry list : List ℕ) : Type 0 where
  pub races : List (ℕ × ℕ)
  pub onward : (cs : List (ℕ × ℕ)) → CoversFrom (setting_of tr) b (event_of (at tr t)) cs → CoversFrom (setting_of tr) b (event_of (at tr a)) (races ++ cs)
  pub whole : T (before (setting_of tr) t b) → CoversFrom (setting_of tr) b (event_of (at tr a)) races
  pub below : t < b
  pub leading : T (leads (setting_of tr) b (event_of (at tr t)))
  pub few : k < rank tr (event_of (at tr t))
  pub count-is : k ≡ length races
  pub list_is : list ≡ with_entries (race_entries races) entry
