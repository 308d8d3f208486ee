-- The reading by 1 to 10 alone, 31 apart: what one pass over the records gives, which needs no order between event actions.
-- Assumes nothing.
use Rattle.std.specs.Prelude.{ℕ, ◌+◌, ◌<◌, ◌≤◌, ◌≡◌, false, List, [], ◌∷◌, ◌≢◌, leb, length}
use Rattle.records.specs.declared.Record.{Record}
use Rattle.records.specs.declared.Trace.{Trace}
use Rattle.records.specs.Records.{at, past, begun, ended}
use Rattle.records.specs.Kinds.{has_send}
use Rattle.records.specs.Bytes.{decode, part}
use Rattle.ranks.specs.Ranks.{ranks_of}
use Rattle.links.specs.Fill.{fill_all}
use Rattle.trace.specs.declared.Scanned.{Scanned}
use Rattle.trace.specs.Rule.{situation, owner, judge}
use Rattle.trace.specs.Reply.{Reply, refused, gives, demand, or_else, then}
use Rattle.trace.specs.Reading.{closing, frame_reply, records_in, read_reply, Accepts}
use Rattle.trace.specs.Paper.{paper}

-- refusals 4 to 8 of record r after the records before it, or 0
unfoldable pub plain_rule : List Record → Record → ℕ
plain_rule before r =
    judge (situation before) (owner before) r (begun r.first before) (begun r.second before) (ended r.second before) false

-- each record in turn, after the records before, the latest first
unfoldable pub plain_walk : ℕ → ℕ → List Record → List Record → Reply Trace
plain_walk start m before [] = closing start m before
plain_walk start m before (r ∷ rest) = or_else (plain_rule before r) (length before + 1) (plain_walk start m (r ∷ before) rest)

unfoldable pub plain_reply : List ℕ → Reply Trace
plain_reply b = then (frame_reply b) (λ t. plain_walk t.start t.events [] (records_in b t))

-- Just the first n records pass 4 to 8, each after those before it.
pub record Passed (tr : List Record) (n : ℕ) : Type 0 where
  pub within : n ≤ length tr
  pub each : (i : ℕ) → i < n → plain_rule (past tr i) (at tr i) ≡ 0
  pub next : n < length tr → plain_rule (past tr n) (at tr n) ≢ 0

-- The pass over the records: its reply, where they start, how many passed, and whether one of those is a send.
pub record Scans (tr : List Record) (start m : ℕ) (s : Scanned) : Type 0 where
  pub reply : paper s.reading ≡ plain_walk start m [] tr
  pub from : s.start ≡ start
  pub passes : Passed tr s.passed
  pub sent : s.sends ≡ has_send (past tr s.passed)

-- the records that passed
unfoldable pub passed_in : List ℕ → Scanned → List Record
passed_in b s = decode (part b s.start s.passed)

-- 31 at the begin at position blocked, where that is among the records that passed; else the reading of the first pass
unfoldable pub earlier : Scanned → ℕ → Reply Trace
earlier s blocked = demand (leb s.passed blocked) 31 (blocked + 1) (paper s.reading)

-- The reading by 1 to 10: where it met no send it is the whole reading; else the first begin that 31 refuses, of the records that passed, stands before
-- it. Of an accepted trace it tells whether there is a send, and all records passed. Where 1 to 3 apply there are none.
pub record FirstPass (b : List ℕ) (s : Scanned) : Type 0 where
  pub reply : paper s.reading ≡ plain_reply b
  pub framed : (n : Trace) → gives n ≡ frame_reply b → Scans (records_in b n) n.start n.events s
  pub unframed : (number place : ℕ) → refused number place ≡ frame_reply b → (s.start ≡ 0) × (s.passed ≡ 0) × (s.sends ≡ false)
  pub few : s.passed ≤ 4096
  pub enough : s.sends ≡ false → paper s.reading ≡ read_reply b
  pub decided : earlier s (fill_all (passed_in b s)).stop ≡ read_reply b
  pub tells : (t : Trace) → gives t ≡ paper s.reading → s.sends ≡ t.sends
  pub all_passed : (t : Trace) → Accepts b t → passed_in b s ≡ records_in b t

-- Of the records that pass 4 to 8, all of an accepted trace, the ranks of their events and the table of what happens before what, by rank, up to the
-- first begin that 31 refuses.
pub record TracesLinks (b ranks table : List ℕ) : Type 0 where
  pub accepted : (t : Trace) → Accepts b t → (ranks ≡ ranks_of (records_in b t)) × (table ≡ (fill_all (records_in b t)).words)
  pub passed : (s : Scanned) → FirstPass b s → (ranks ≡ ranks_of (passed_in b s)) × (table ≡ (fill_all (passed_in b s)).words)
  pub long : length table ≡ 8704
