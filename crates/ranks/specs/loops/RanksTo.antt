-- What the loop over the records keeps. Assumes nothing.
use Rattle.std.specs.Prelude.{ℕ, ◌≡◌, List}
use Rattle.records.specs.declared.Record.{Record}
use Rattle.records.specs.Records.{past, begins}
use Rattle.ranks.specs.Ranks.{ranks_upto}

-- a table has them, and there are that many begins
pub record RanksTo (tr : List Record) (i : ℕ) (ranks : List ℕ) (found : ℕ) : Type 0 where
  pub ranks_are : ranks ≡ ranks_upto tr i
  pub begins_are : found ≡ begins (past tr i)
