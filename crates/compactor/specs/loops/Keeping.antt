-- How the compactor tells which records are kept, and what it writes. Assumes nothing.
use Rattle.std.specs.Prelude.{ℕ, zero, suc, ◌*◌, ◌<◌, ◌≡◌, Bool, cond, ◌&&◌, List, ◌++◌, eqb, leb, length, get_or, drop}
use Rattle.records.specs.declared.Record.{Record}
use Rattle.records.specs.Bytes.{record_bytes}
use Rattle.records.specs.Records.{at, event_of}
use Rattle.trace.specs.Reading.{Acceptable}
use Rattle.records.specs.Encoding.{encode}
use Rattle.compactor.specs.SlimTrace.{slim_of}
use Rattle.compactor.specs.Compact.{slim_bytes}

module _ (tr : List Record) where
  -- the event that last read (kind 5) or wrote (kind 6) cell c before record i; 0 where none did
  unfoldable pub last_by : ℕ → ℕ → ℕ → ℕ
  last_by kind c zero = 0
  last_by kind c (suc i) = cond (eqb (at tr i).kind kind && eqb (at tr i).second c) (event_of (at tr i)) (last_by kind c i)

  -- a list of these for each cell
  pub record Stamped (kind i : ℕ) (stamps : List ℕ) : Type 0 where
    pub size : length stamps ≡ 1025
    pub tells : (c : ℕ) → c < 1025 → get_or stamps c 0 ≡ last_by kind c i

  pub record Stamps (i : ℕ) (read written : List ℕ) : Type 0 where
    pub acceptable : Acceptable tr
    pub reads : Stamped 5 i read
    pub writes : Stamped 6 i written

-- all records are passed: those that are kept are written, or only counted
pub record Passes (writing : Bool) (tr : List Record) (out out' : List ℕ) (r : ℕ) : Type 0 where
  pub count : r ≡ length (slim_of tr)
  pub out-is : out' ≡ cond writing (encode (slim_of tr) ++ drop (record_bytes * length (slim_of tr)) out) out

-- whether the space holds the slim trace; the bytes are as before
pub record Fits (tr : List Record) (out out' : List ℕ) (r : Bool) : Type 0 where
  pub tells : r ≡ leb (length (slim_bytes tr)) (length out)
  pub out-is : out' ≡ out

-- the slim trace is written
pub record WritesSlim (tr : List Record) (out out' : List ℕ) (r : ℕ) : Type 0 where
  pub count : r ≡ length (slim_of tr)
  pub out-is : out' ≡ slim_bytes tr ++ drop (length (slim_bytes tr)) out
