-- The pass over the records that fills all rows, as the code keeps it: lists, and one number. At a link the earlier row is merged into the
-- later one (`Walk`); at a begin the chain is read off the merged row. Assumes nothing.
use Rattle.std.specs.Prelude.{ℕ, suc, ◌+◌, ◌*◌, ◌-◌, ◌≤◌, ◌<◌, min, max, ◌≡◌, Bool, true, false, List, leb, eqb, length, get_or, set}
use Rattle.order.specs.Chains.{first}

-- 1 added at entry c of row u
unfoldable pub tick : ℕ → ℕ → ℕ → List ℕ → List ℕ
tick width u c cs = set cs (u * width + c) (get_or cs (u * width + c) 0 + 1)

-- all members of chain c are in the merged row that starts at a; `sizes` lists the members of each chain
abbrev pub full_at : ℕ → List ℕ → List ℕ → ℕ → Bool
full_at a cs sizes c = eqb (get_or cs (a + c) 0) (get_or sizes c 0)

-- the lowest chain all of whose members are in the merged row u, or a new one
unfoldable pub choose_in : ℕ → ℕ → List ℕ → List ℕ → ℕ → ℕ
choose_in width u cs sizes chains = first (full_at (u * width) cs sizes) chains

-- none of the first chains is such
abbrev pub NoneFull : ℕ → List ℕ → List ℕ → ℕ → Type 0
NoneFull a cs sizes chains = (c : ℕ) → c < chains → get_or cs (a + c) 0 ≡ get_or sizes c 0 → ⊥

pub record Rows : Type 0 where
  pub clocks : List ℕ
  -- the members of each chain so far
  pub sizes : List ℕ
  -- the chain of each row that has begun; for any other its hint
  pub chosen : List ℕ
  -- how many chains are taken; more than the width where the width has none left
  pub chains : ℕ

abbrev pub pick_rows : Bool → Rows → Rows → Rows
pick_rows true a b = a
pick_rows false a b = b

-- row u begins in chain c
unfoldable pub enter_row : ℕ → ℕ → Rows → ℕ → Rows
enter_row w u s c = pick_rows (leb w c)
    (record { clocks = s.clocks; sizes = s.sizes; chosen = s.chosen; chains = suc w })
    (record {
      clocks = tick w u c s.clocks;
      sizes = set s.sizes c (get_or s.sizes c 0 + 1);
      chosen = set s.chosen u c;
      chains = max s.chains (suc c);
    })

abbrev pub begin_row : ℕ → ℕ → Rows → Rows
begin_row w u s = enter_row w u s (choose_in w u s.clocks s.sizes s.chains)

-- what the search for a chain must have room for
pub record RoomToChoose (w u : ℕ) (cs sizes : List ℕ) (chains : ℕ) : Type 0 where
  pub row : u * w + w ≤ length cs
  pub chains_fit : chains ≤ w
  pub sizes_room : w ≤ length sizes

-- what the lists must have room for, and that no chain below the one that the hint tells has all its members in the row
pub record RoomToBegin (w u : ℕ) (s : Rows) : Type 0 where
  pub narrow : w ≤ 1024
  pub room : RoomToChoose w u s.clocks s.sizes s.chains
  pub chosen_room : u < length s.chosen
  pub few_entries : (c : ℕ) → c < w → get_or s.clocks (u * w + c) 0 < 65535
  pub few_members : (c : ℕ) → c < w → get_or s.sizes c 0 < 65535
  pub hint_low : get_or s.chosen u 0 ≤ 1024
  pub hinted : NoneFull (u * w) s.clocks s.sizes (min s.chains (1024 - get_or s.chosen u 0))

-- lists and number are those of s
pub record Are (s : Rows) (clocks sizes chosen : List ℕ) (chains : ℕ) : Type 0 where
  pub clocks_are : clocks ≡ s.clocks
  pub sizes_are : sizes ≡ s.sizes
  pub chosen_are : chosen ≡ s.chosen
  pub chains_are : chains ≡ s.chains
