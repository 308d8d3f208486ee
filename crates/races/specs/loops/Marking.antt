-- Entries of a list of numbers, and the marks set one after the other. Definitions alone. Assumes nothing.
use Rattle.std.specs.Prelude.{ℕ, zero, suc, ◌+◌, ◌*◌, ◌-◌, ◌≡◌, List, length, get_or, set}
use Rattle.records.specs.declared.Record.{Record}
use Rattle.races.specs.Lists.{entry_numbers, mark_of}

-- first and second of entry i, as numbers
abbrev pub first : List ℕ → ℕ → ℕ
first list i = get_or list (entry_numbers * i) 0

abbrev pub second : List ℕ → ℕ → ℕ
second list i = get_or list (entry_numbers * i + 1) 0

-- the marks of the entries below i
unfoldable pub mark_to : List Record → ℕ → List ℕ → List ℕ
mark_to tr zero list = list
mark_to tr (suc i) list = set (mark_to tr i list) (entry_numbers * i + 4) (mark_of tr (first list i - 1) (second list i - 1))

-- the entries below k were marked, and those below i are
pub record Remarked (tr : List Record) (k i : ℕ) (list list' : List ℕ) : Type 0 where
  pub size : length list' ≡ length list
  pub firsts : (x : ℕ) → first list' x ≡ first list x
  pub seconds : (x : ℕ) → second list' x ≡ second list x
  pub marks : (raw : List ℕ) → list ≡ mark_to tr k raw → list' ≡ mark_to tr i raw
