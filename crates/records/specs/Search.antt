-- The next access of a cell that conflicts with a given one. Definitions alone. Assumes nothing.
use Rattle.std.specs.Prelude.{ℕ, ◌≤◌, ◌<◌, ◌≡◌, Bool, cond, ◌&&◌, List, T, leb, eqb, length}
use Rattle.records.specs.declared.Record.{Record}
use Rattle.records.specs.Records.{at}

-- the least kind of record that races with an access of that kind: with a read only a write does
unfoldable pub least_kind : ℕ → ℕ
least_kind kind = cond (eqb kind 5) 6 5

module _ (tr : List Record) where
  -- may record i race with an access of cell c, by its kind's number, where only a record of that kind or a higher one does? A send may by its number
  unfoldable pub may_race : ℕ → ℕ → ℕ → Bool
  may_race least c i = eqb (at tr i).second c && leb least (at tr i).kind

  -- none of the records from i on, before r, may race with an access of cell c
  pub record Past (least c i r : ℕ) : Type 0 where
    pub low : i ≤ r
    pub none : (x : ℕ) → i ≤ x → x < r → T (may_race least c x) → ⊥

  -- r is the next record from `from` on, before `to`, that may race with an access of cell c, or `to`
  pub record NextAccess (least c from to r : ℕ) : Type 0 where
    pub high : r ≤ to
    pub past : Past least c from r
    pub found : r < to → T (may_race least c r)

  -- r is that record; where there are fewer than `to` records it is `to`, and else, where `from` is past `to`, it is `from`
  pub record NextFrom (least c from to r : ℕ) : Type 0 where
    pub long : length tr < to → r ≡ to
    pub none_between : to ≤ length tr → to < from → r ≡ from
    pub next : from ≤ to → to ≤ length tr → NextAccess least c from to r
