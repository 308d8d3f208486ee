-- Refusal 31 for an event that is to begin after all records: the tests that need no order, then the table and one walk. Over any records.
-- Assumes nothing.
use Rattle.std.specs.Prelude.{ℕ, zero, suc, ◌+◌, ◌-◌, ◌≡◌, Bool, true, false, not, ◌&&◌, ◌||◌, List, Option, None, Some, eqb, ltb, length, get_or, set}
use Rattle.slices.specs.Slices.{zeros}
use Rattle.records.specs.declared.Record.{Record}
use Rattle.records.specs.Records.{at, past, begins}
use Rattle.ranks.specs.Ranks.{ranks_of}
use Rattle.bits.specs.Words.{words_if}
use Rattle.bits.specs.Table.{put_bit}
use Rattle.records.specs.Kinds.{is_send}
use Rattle.links.specs.Rule.{rank_in, walk}
use Rattle.links.specs.Fill.{fill_from}

unfoldable pub send_to : ℕ → Record → Bool
send_to e r = is_send r && eqb r.second e

abbrev pub number_if : Bool → ℕ → ℕ → ℕ
number_if true a b = a
number_if false a b = b

-- one more than the position of the last send to e among the first j records, or 0
unfoldable pub last_send : List Record → ℕ → ℕ → ℕ
last_send tr e zero = 0
last_send tr e (suc j) = number_if (send_to e (at tr j)) (suc j) (last_send tr e j)

-- the same number, where the position is given
abbrev pub from_last : Option ℕ → ℕ
from_last None = 0
from_last (Some j) = suc j

-- one record on the way down, where `sent` holds 1 for each link that sends to e further on
module _ (ranks : ℕ → ℕ) (e : ℕ) (r : Record) (sent : List ℕ) where
  -- such a link sends to another event that has not begun
  unfoldable pub may_turn : Bool
  may_turn = is_send r && (not (eqb r.second e) && (eqb (ranks r.second) 0 && eqb (get_or sent (r.kind - 16) 0) 1))

  unfoldable pub may_sent : List ℕ
  may_sent = words_if (send_to e r) (set sent (r.kind - 16) 1) sent

-- what such a turn leaves
pub record Mayed (ranks : ℕ → ℕ) (e : ℕ) (r : Record) (sent : List ℕ) (found : Bool) (sent' : List ℕ) : Type 0 where
  pub found-is : found ≡ may_turn ranks e r sent
  pub sent_is : sent' ≡ may_sent ranks e r sent

-- down from position j
unfoldable pub may : List Record → (ℕ → ℕ) → ℕ → ℕ → List ℕ → Bool
may tr ranks e zero sent = false
may tr ranks e (suc j) sent = may_turn ranks e (at tr j) sent || may tr ranks e j (may_sent ranks e (at tr j) sent)

-- the table over all records and the walk for e, in row u, where there is room for one
unfoldable pub table_blocked : List Record → (ℕ → ℕ) → ℕ → ℕ → ℕ → Bool
table_blocked tr ranks from e u =
    not (ltb 1023 u)
    && (walk tr ranks e (u + 1) from (put_bit u u (fill_from tr ranks 0 (length tr) (zeros 8704) (zeros 1025)).words) (zeros 64)).stuck

unfoldable pub begin_blocked : List Record → ℕ → Bool
begin_blocked tr e =
    not (eqb (last_send tr e (length tr)) 0)
    && (may tr (rank_in (ranks_of tr)) e (last_send tr e (length tr)) (zeros 4)
    && table_blocked tr (rank_in (ranks_of tr)) (last_send tr e (length tr)) e (begins (past tr (length tr))))
