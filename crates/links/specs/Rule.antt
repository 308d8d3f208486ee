-- The link rule at the begin of an event e of rank u, over a table of bits by row (rank less 1): one walk down the records. Over any records;
-- rank 0 is none. Assumes nothing.
use Rattle.std.specs.Prelude.{ℕ, zero, suc, ◌-◌, ◌≡◌, Bool, true, false, not, ◌&&◌, ◌||◌, List, eqb, ltb, get_or}
use Rattle.records.specs.declared.Record.{Record}
use Rattle.records.specs.Records.{at}
use Rattle.bits.specs.Words.{words_if}
use Rattle.bits.specs.Table.{bit_of, or_row, member, or_set}
use Rattle.records.specs.Kinds.{is_send}

-- the rank of an event number, by a list of ranks
abbrev pub rank_in : List ℕ → ℕ → ℕ
rank_in ranks e = get_or ranks e 0

-- the target of rank t has not begun before the event of rank u
unfoldable pub missing : ℕ → ℕ → Bool
missing t u = eqb t 0 || ltb u t

-- the event of rank u comes behind that of rank t, unless it is already
unfoldable pub behind : ℕ → ℕ → List ℕ → List ℕ
behind t u ws = words_if (missing t u || bit_of ws (t - 1) (u - 1)) ws (or_row (t - 1) (u - 1) ws)

-- row x, what happens before a sender and the sender itself, reaches link l, unless it does already
unfoldable pub reach : ℕ → ℕ → List ℕ → List ℕ → List ℕ
reach l x ws sets = words_if (member sets l x) sets (or_set ws l x sets)

-- one record of the walk, where four sets hold the rows that have reached each link
module _ (ranks : ℕ → ℕ) (e u : ℕ) (r : Record) (ws sets : List ℕ) where
  -- a send by an event action that has a row
  unfoldable pub sends : Bool
  sends = is_send r && not (eqb (ranks r.first) 0)

  -- to another target than e, by one that has reached the link
  unfoldable pub hits : Bool
  hits = sends && (not (eqb r.second e) && member sets (r.kind - 16) (ranks r.first - 1))

  unfoldable pub turn_words : List ℕ
  turn_words = words_if hits (behind (ranks r.second) u ws) ws

  unfoldable pub turn_sets : List ℕ
  turn_sets = words_if (sends && eqb r.second e) (reach (r.kind - 16) (ranks r.first - 1) ws sets) sets

  unfoldable pub turn_stuck : Bool
  turn_stuck = hits && missing (ranks r.second) u

-- what such a turn leaves
pub record Turned (ranks : ℕ → ℕ) (e u : ℕ) (r : Record) (ws sets : List ℕ) (stuck : Bool) (ws' sets' : List ℕ) : Type 0 where
  pub stuck_is : stuck ≡ turn_stuck ranks e u r ws sets
  pub words_are : ws' ≡ turn_words ranks e u r ws sets
  pub sets_are : sets' ≡ turn_sets ranks e u r ws sets

-- a table, and whether 31 refuses
pub record Walked : Type 0 where
  pub words : List ℕ
  pub stuck : Bool

-- a call answers so and leaves that table
abbrev pub Leaves : Walked → Bool → List ℕ → Type 0
Leaves w stuck ws = (stuck ≡ w.stuck) × (ws ≡ w.words)

abbrev pub walked_if : Bool → Walked → Walked → Walked
walked_if true a b = a
walked_if false a b = b

-- the walk down from position j; it stops at the first target that is missing
unfoldable pub walk : List Record → (ℕ → ℕ) → ℕ → ℕ → ℕ → List ℕ → List ℕ → Walked
walk tr ranks e u zero ws sets = record { words = ws; stuck = false }
walk tr ranks e u (suc j) ws sets =
    walked_if (turn_stuck ranks e u (at tr j) ws sets) (record { words = turn_words ranks e u (at tr j) ws sets; stuck = true })
    (walk tr ranks e u j (turn_words ranks e u (at tr j) ws sets) (turn_sets ranks e u (at tr j) ws sets))
