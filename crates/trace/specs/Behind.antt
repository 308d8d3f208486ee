-- "Refusal 31, following 7 on a begin and placed there, is for an event that a link puts behind another target not yet begun."
-- Assumes nothing.
use Rattle.std.specs.Prelude.{ℕ, ◌+◌, ◌<◌, ◌≡◌, List, ◌↔◌, T, length}
use Rattle.records.specs.declared.Record.{Record}
use Rattle.records.specs.declared.Trace.{Trace}
use Rattle.records.specs.Records.{at, past, is_begin}
use Rattle.precedence.specs.Before.{Blocked}
use Rattle.trace.specs.Rule.{rule}
use Rattle.trace.specs.Reply.{refused, gives}
use Rattle.trace.specs.Reading.{frame_reply, records_in, read_reply}
use Rattle.trace.specs.Plain.{plain_rule}

-- All records before position i pass every rule; record i is a begin that passes 4 to 7 (8 is for joins), and a link puts its event behind another target
-- not yet begun.
pub record BehindAt (tr : List Record) (i : ℕ) : Type 0 where
  pub inside : i < length tr
  pub passed : (j : ℕ) → j < i → rule (past tr j) (at tr j) ≡ 0
  pub is-begin : T (is_begin (at tr i))
  pub others : plain_rule (past tr i) (at tr i) ≡ 0
  pub behind : Blocked tr i

-- So it is of the records that the bytes end with, and the place is that record's number.
pub record RefusedBehind (b : List ℕ) (place : ℕ) : Type 0 where
  pub t : Trace
  pub framed : gives t ≡ frame_reply b
  pub position : ℕ
  pub numbered : place ≡ position + 1
  pub there : BehindAt (records_in b t) position

-- A reading gives 31 exactly there.
abbrev pub RefusesBehind : List ℕ → Type 0
RefusesBehind b = (place : ℕ) → (refused 31 place ≡ read_reply b) ↔ RefusedBehind b place
