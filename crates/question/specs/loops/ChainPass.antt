-- The chains from the trace alone, as the code keeps them. Assumes nothing.
use Rattle.std.specs.Prelude.{ℕ, suc, ◌≤◌, ◌<◌, max, ◌≡◌, Bool, true, false, cond, List, ◌≢◌, leb, eqb, length, get_or, set}
use Rattle.slices.specs.Slices.{zeros}
use Rattle.records.specs.declared.Record.{Record}
use Rattle.question.specs.declared.chains.Members.{Members}
use Rattle.records.specs.Records.{at}
use Rattle.trace.specs.Reading.{Acceptable}
use Rattle.order.specs.Chains as chains
use Rattle.question.specs.loops.Marking.{marked, marks_in}
use Rattle.ranks.specs.declared.Ordering.{Ordering}
use Rattle.ranks.specs.declared.Ordering.TheVariants.{Link, Begin, Nothing}
use Rattle.ranks.specs.OrderingOf.{ordering_of}
use Rattle.ranks.specs.Ranks.{ranks_of}
use Rattle.order.specs.Fill.{events_in, row_past_width, chain_table}
use Rattle.order.specs.loops.PassEnds.{Short}

-- no row has entered a chain
abbrev pub no_members : Members
no_members = record { lasts = zeros 1024; chains = 0; first = 0; second = 0 }

abbrev pub pick_members : Bool → Members → Members → Members
pick_members true a b = a
pick_members false a b = b

-- the lowest chain whose last member is marked, or a new one
unfoldable pub marked_chain : List ℕ → List ℕ → ℕ → ℕ
marked_chain marks lasts taken = chains.first (λ c. marked marks (get_or lasts c 0)) taken

-- the chain of a row asked for, where row u enters chain c
unfoldable pub own_chain : ℕ → ℕ → ℕ → ℕ → ℕ
own_chain asked u c own = cond (eqb u asked) c own

-- row u enters chain c, where rows x and y are asked for
unfoldable pub enter_chain : ℕ → ℕ → ℕ → ℕ → Members → ℕ → Members
enter_chain x y w u s c = pick_members (leb w c)
    (record { lasts = s.lasts; chains = suc w; first = s.first; second = s.second })
    (record { lasts = set s.lasts c u; chains = max s.chains (suc c); first = own_chain x u c s.first; second = own_chain y u c s.second })

-- what the records say, where ranks are listed by event number
abbrev pub said_by : List ℕ → List Record → ℕ → Ordering
said_by ranks tr i = ordering_of (λ e. get_or ranks e 0) (at tr i)

-- the record at position i, which says `o`
unfoldable pub turn_members : List ℕ → List Record → ℕ → ℕ → ℕ → ℕ → Ordering → Members → Members
turn_members ranks tr x y w i (Link p u) s = s
turn_members ranks tr x y w i (Begin u) s = enter_chain x y w u s (marked_chain (marks_in (said_by ranks tr) i u 1024) s.lasts s.chains)
turn_members ranks tr x y w i Nothing s = s

abbrev pub RoomFor : Ordering → Members → Type 0
RoomFor (Link p u) s = Unit {0}
RoomFor (Begin u) s = (u < 1024) × (s.chains ≤ 1024) × (length s.lasts ≡ 1024)
RoomFor Nothing s = Unit {0}

-- what a pass, over the records or from the table, asks for and gives
pub record ReadyChains (tr : List Record) (w : ℕ) (ranks : List ℕ) : Type 0 where
  pub acceptable : Acceptable tr
  pub ranks_are : ranks ≡ ranks_of tr
  pub narrow : w ≤ 1024

pub record PassesChains (tr : List Record) (x y w position first second : ℕ) : Type 0 where
  pub whole : row_past_width tr w ≡ events_in tr → (first ≡ get_or (chain_table tr) x 0) × (second ≡ get_or (chain_table tr) y 0) × (position ≡ length tr)
  pub short : row_past_width tr w ≢ events_in tr → Short tr w position
