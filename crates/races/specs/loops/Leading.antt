-- A row made ready from the clocks alone: rows before it that happen before it are merged into it, the latest first, but for those that lead to one that
-- was merged. Assumes nothing.
use Rattle.std.specs.Prelude.{ℕ, zero, suc, ◌+◌, ◌*◌, ◌≤◌, ◌<◌, max, Bool, ◌&&◌, List, leb, ltb, length, get_or, set}
use Rattle.slices.specs.Slices.{zeros}
use Rattle.clocks.specs.Rows.{rows_if, merge_row, clear_row}

-- the first entries of row t, kept apart
unfoldable pub kept_to : ℕ → ℕ → List ℕ → ℕ → List ℕ
kept_to width t clocks zero = zeros 1024
kept_to width t clocks (suc c) = set (kept_to width t clocks c) c (get_or clocks (t * width + c) 0)

module _ (chosen : List ℕ) (width : ℕ) (kept : List ℕ) (t : ℕ) where
  -- row p happens before row t, as the entries say that were kept, and does not lead to a row that was merged
  unfoldable pub leads_in : List ℕ → ℕ → Bool
  leads_in clocks p =
      let c = get_or chosen p 0 in
      leb (get_or clocks (p * width + c) 0) (get_or kept c 0) && ltb (get_or clocks (t * width + c) 0) (get_or clocks (p * width + c) 0)

  module _ (chains : ℕ) where
    unfoldable pub lead_from : ℕ → List ℕ → List ℕ
    lead_from p clocks = rows_if (leads_in clocks p) (merge_row width chains p t clocks) clocks

    -- of the first k rows, the last first
    unfoldable pub lead_down : ℕ → List ℕ → List ℕ
    lead_down zero clocks = clocks
    lead_down (suc p) clocks = lead_down p (lead_from p clocks)

-- an entry becomes at least the value
unfoldable pub raise_to : ℕ → ℕ → List ℕ → List ℕ
raise_to place value clocks = set clocks place (max (get_or clocks place 0) value)

-- row t anew: of the rows before it, and its own entry
unfoldable pub lead_in : List ℕ → ℕ → ℕ → ℕ → List ℕ → List ℕ
lead_in chosen width chains t clocks =
    let own = t * width + get_or chosen t 0 in
    raise_to own (get_or clocks own 0) (lead_down chosen width (kept_to width t clocks width) t chains t (clear_row width t clocks))

-- rows up to t stand in the clocks, and their chains are known
pub record MayLead (chosen : List ℕ) (width : ℕ) (clocks : List ℕ) (t : ℕ) : Type 0 where
  pub known : t < length chosen
  pub low : t < 65536
  pub narrow : width ≤ 1024
  pub room : t * width + width ≤ length clocks
  pub chains_fit : (p : ℕ) → p ≤ t → get_or chosen p 0 < width
