-- The third demand, as a statement about the answers of all three calls. Assumes nothing.
use Rattle.std.specs.Prelude.{ℕ, ◌+◌, ◌/◌, ◌≡◌, List, ◌⊎◌, ◌↔◌, length, Result, Ok}
use Rattle.records.specs.declared.Record.{Record}
use Rattle.records.specs.declared.Trace.{Trace}
use Rattle.trace.specs.Reply.{refused}
use Rattle.trace.specs.Reading.{records_in, Accepts}
use Rattle.order.specs.Fill.{events_in}
use Rattle.coverage.specs.Race.{Race}
use Rattle.coverage.specs.Arrangement.{Accesses}
use Rattle.coverage.specs.Leading.{entries, written}
use Rattle.races.specs.Traces.{setting_of}
use Rattle.races.specs.Demand.{Suffices, OpenBy, ListsSuffice, ListsDemand}
use Rattle.trace.specs.declared.Refusal.{Refusal}
use Rattle.pair.specs.declared.Verdict.{Verdict}
use Rattle.pair.specs.declared.Verdict.TheVariants as pair
use Rattle.pair.specs.Pair.{entry_numbers, PairPromise, GivesCover, pair_reply, kept_entries, with_entries}

module _ (tr : List Record) where
  -- "24: .. for the pair question fewer than event actions": an entry is two numbers
  abbrev pub PairSuffices : ℕ → ℕ → ℕ → ℕ → Type 0
  PairSuffices width clocks work list = Suffices tr width clocks work (list / entry_numbers) (events_in tr)

  -- the pair question on a race (a, b), by position: it is answered, open or covered
  pub record PairDemand (a b : ℕ) (list list' : List ℕ) (r : Result Verdict Refusal) : Type 0 where
    pub is_answered : ((k : ℕ) × (r ≡ Ok (pair.Open k))) ⊎ ((k : ℕ) × (r ≡ Ok (pair.Covered k)))
    pub open_exactly : OpenBy tr a b ((k : ℕ) × (r ≡ Ok (pair.Open k)))
    -- "The pair question gives such an arrangement, the one that document 01 picks"
    pub arrangement : (k : ℕ) → r ≡ Ok (pair.Open k)
        → (list' ≡ with_entries (kept_entries tr b) list) × Accesses (setting_of tr) a b (written (setting_of tr) (entries (setting_of tr) b))
    -- "or else a sequence of races that covers the pair"
    pub cover : (k : ℕ) → r ≡ Ok (pair.Covered k) → GivesCover tr a b k list list'

-- so does `PairSuffices`: the pair question on a race is refused exactly where it fails
pub record SufficesExactly : Type 0 where
  pub lists : ListsSuffice
  pub pairs : (bytes : List ℕ) (t : Trace) → Accepts bytes t → (width clocks work list a b : ℕ) → Race (setting_of (records_in bytes t)) a b
      → PairSuffices (records_in bytes t) width clocks work list
      ↔ ((n p : ℕ) → pair_reply bytes width clocks work list (a + 1) (b + 1) ≡ refused n p → ⊥)

-- "Take every accepted trace, whatever the lent spaces held before, so long as they and the clock width suffice for the call."
pub record ThirdDemand : Type 0 where
  -- the short list and the list of all races
  pub lists : ListsDemand
  pub pairs : (bytes : List ℕ) (t : Trace) → Accepts bytes t
      → (width : ℕ) (clocks clocks' work work' list list' : List ℕ) (a b : ℕ) (r : Result Verdict Refusal)
      → PairSuffices (records_in bytes t) width (length clocks) (length work) (length list) → Race (setting_of (records_in bytes t)) a b
      → PairPromise bytes width clocks clocks' work work' list list' (a + 1) (b + 1) r → PairDemand (records_in bytes t) a b list list' r
