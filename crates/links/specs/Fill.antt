-- The whole table over the first n records, where ranks are given: forks, sends and joins take rows into others, a begin enters its own row and
-- takes those that the links put it behind. It stops at the first begin that 31 refuses. Over any records. Assumes nothing.
use Rattle.std.specs.Prelude.{ℕ, zero, suc, ◌+◌, ◌-◌, ◌%◌, ◌≡◌, Bool, true, false, ◌&&◌, ◌||◌, List, eqb, length, get_or, set}
use Rattle.slices.specs.Slices.{zeros}
use Rattle.records.specs.declared.Record.{Record}
use Rattle.records.specs.Records.{at, is_begin, is_join}
use Rattle.ranks.specs.Ranks.{ranks_of}
use Rattle.bits.specs.Words.{words_if}
use Rattle.bits.specs.Table.{put_bit, or_row}
use Rattle.records.specs.Kinds.{is_send, starts}
use Rattle.links.specs.Rule.{rank_in, Walked, walked_if, walk}

-- a direct link by ranks p and u, where both have a row
unfoldable pub linked : ℕ → ℕ → List ℕ → List ℕ
linked p u ws = words_if (eqb p 0 || eqb u 0) ws (or_row (p - 1) (u - 1) ws)

-- the begin of e, of rank u, where the last send to e is the last of the first `from` records
unfoldable pub begin_row : List Record → (ℕ → ℕ) → ℕ → ℕ → ℕ → List ℕ → Walked
begin_row tr ranks e u from ws = walked_if (eqb u 0) (record { words = ws; stuck = false }) (walk tr ranks e u from (put_bit (u - 1) (u - 1) ws) (zeros 64))

-- record i, where last holds for each event number one more than the position of the last send to it, 0 where there is none
module _ (tr : List Record) (ranks : ℕ → ℕ) (i : ℕ) (ws last : List ℕ) where
  unfoldable pub begun : Walked
  begun = begin_row tr ranks (at tr i).first (ranks (at tr i).first) (get_or last (at tr i).first 0) ws

  unfoldable pub step_words : List ℕ
  step_words =
      words_if (is_begin (at tr i)) begun.words
      (words_if (is_join (at tr i)) (linked (ranks (at tr i).second) (ranks (at tr i).first) ws)
      (words_if (starts (at tr i)) (linked (ranks (at tr i).first) (ranks (at tr i).second) ws) ws))

  unfoldable pub step_last : List ℕ
  step_last = words_if (is_send (at tr i)) (set last (at tr i).second ((i + 1) % 65536)) last

  unfoldable pub step_stuck : Bool
  step_stuck = is_begin (at tr i) && begun.stuck

-- what such a step leaves
pub record Stepped (tr : List Record) (ranks : ℕ → ℕ) (i : ℕ) (ws last : List ℕ) (stuck : Bool) (ws' last' : List ℕ) : Type 0 where
  pub stuck_is : stuck ≡ step_stuck tr ranks i ws last
  pub words_are : ws' ≡ step_words tr ranks i ws last
  pub last-is : last' ≡ step_last tr ranks i ws last

-- where filling stopped, and the table
pub record FilledTable : Type 0 where
  pub stop : ℕ
  pub words : List ℕ

-- a call answers so and leaves that table
abbrev pub Stops : FilledTable → ℕ → List ℕ → Type 0
Stops f stop ws = (stop ≡ f.stop) × (ws ≡ f.words)

abbrev pub filled_if : Bool → FilledTable → FilledTable → FilledTable
filled_if true a b = a
filled_if false a b = b

-- the k records from position i on
unfoldable pub fill_from : List Record → (ℕ → ℕ) → ℕ → ℕ → List ℕ → List ℕ → FilledTable
fill_from tr ranks i zero ws last = record { stop = i; words = ws }
fill_from tr ranks i (suc k) ws last =
    filled_if (step_stuck tr ranks i ws last) (record { stop = i; words = step_words tr ranks i ws last })
    (fill_from tr ranks (suc i) k (step_words tr ranks i ws last) (step_last tr ranks i ws last))

-- all records, by their own ranks, from a table without bits
unfoldable pub fill_all : List Record → FilledTable
fill_all tr = fill_from tr (rank_in (ranks_of tr)) 0 (length tr) (zeros 8704) (zeros 1025)
