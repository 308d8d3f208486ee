-- Where the first accesses that may race with a second access b are looked for: along the accesses of its cell. `CandidateLaws` and `ListLaws` prove
-- that none is missed. Definitions alone. Assumes nothing.
use Rattle.std.specs.Prelude.{ℕ, zero, suc, ◌+◌, ◌-◌, ◌≤◌, ◌<◌, ◌≡◌, ◌≢◌, Bool, true, false, cond, ◌&&◌, ◌||◌, List, T, ltb, eqb, length, get_or}
use Rattle.records.specs.declared.Record.{Record}
use Rattle.records.specs.Records.{at, is_write, event_of}
use Rattle.clocks.specs.WayRound.{relate_in, says_before}
use Rattle.order.specs.Rank.{rank}
use Rattle.order.specs.HappensBefore.{happens_before}
use Rattle.coverage.specs.Race.{raceb}
use Rattle.races.specs.Traces.{is_access, setting_of}

-- by the number of a cell: do all its accesses from the start on happen before row u, or belong to it?
unfoldable pub ordered_in : List ℕ → ℕ → List ℕ → ℕ → ℕ → Bool
ordered_in chosen width clocks seen u = cond (eqb seen 0) true (cond (ltb 1024 seen) false
    (says_before (relate_in clocks width (seen - 1) (get_or chosen (seen - 1) 0) u (get_or chosen u 0))))

-- the number of a cell after an access of row u; in the short list a write is its start
unfoldable pub seen_after : Bool → Bool → ℕ → ℕ → ℕ
seen_after ordered short kind u = cond (ordered || (short && eqb kind 6)) (u + 1) 1025

-- from where on, and up to where, first accesses of an access b of that kind are looked for, where its cell's last write has the number `last`
unfoldable pub firsts_from : Bool → ℕ → ℕ
firsts_from short last = cond short (last - 1) 0

unfoldable pub firsts_to : ℕ → ℕ → ℕ → ℕ
firsts_to kind last b = cond (eqb kind 5) last b

module _ (tr : List Record) where
  abbrev pub cell : ℕ → ℕ
  cell i = (at tr i).second

  abbrev pub accesses : ℕ → ℕ → Bool
  accesses c i = is_access (at tr i) && eqb (cell i) c

  abbrev pub writes : ℕ → ℕ → Bool
  writes c i = eqb (cell i) c && is_write (at tr i)

  -- The start of a cell before record i: in the short list the position of its last write; 0 where it has none, and in the list of all races.
  unfoldable pub start_of : Bool → ℕ → ℕ → ℕ
  start_of short c zero = 0
  start_of short c (suc i) = cond (short && writes c i) i (start_of short c i)

  -- the accesses of a cell from its start on, before i, are in event actions that happen before e
  pub record Upto (short : Bool) (c i e : ℕ) : Type 0 where
    pub tells : (x : ℕ) → start_of short c i ≤ x → x < i → T (accesses c x) → T (happens_before tr (event_of (at tr x)) e)

  -- the number of a cell's last write before record i, 0 where it has none
  unfoldable pub last_write : ℕ → ℕ → ℕ
  last_write c zero = 0
  last_write c (suc i) = cond (writes c i) (suc i) (last_write c i)

  -- What the number v of a cell tells before record i: 0, it is not accessed; up to 1,024 it is the rank of an event action which all its accesses from the
  -- start on happen before or belong to, and that has one of these records.
  pub record Seen (short : Bool) (c i v : ℕ) : Type 0 where
    pub none : v ≡ 0 → (x : ℕ) → x < i → T (accesses c x) → ⊥
    pub upto : v ≢ 0 → v ≤ 1024 → (y : ℕ) × (y < i) × (v ≡ rank tr (event_of (at tr y))) × Upto short c i (event_of (at tr y))

  -- both numbers of each cell
  pub record Tables (short : Bool) (i : ℕ) (seen written : List ℕ) : Type 0 where
    pub seen_size : length seen ≡ 1025
    pub written_size : length written ≡ 1025
    pub tells : (c : ℕ) → c < 1025 → Seen short c i (get_or seen c 0)
    pub last : (c : ℕ) → c < 1025 → get_or written c 0 ≡ last_write c i

  -- the way to b goes from `from` on, and from `to` on no record races with b
  pub record Range (b from to : ℕ) : Type 0 where
    pub low : from ≤ to
    pub high : to ≤ b
    pub none : (x : ℕ) → to ≤ x → x < b → T (raceb (setting_of tr) x b) → ⊥
