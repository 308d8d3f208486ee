-- The replies by cases are those of the table, from one computed test over all of its entries.
-- Assumes nothing.
use Prim.Native.Nat.{ℕ, ◌/◌, ◌%◌}
use mathlib.Core.Bool.{Bool}
use lib.Dec.{T, eqb, eqb→eq}
use Rattle.trace.specs.Place.{place, high_entries, outside_entries, inside_entries, places, EqualReplies}
use Rattle.trace.proofs.Table.{at, every}

-- the rule at entry i
right : ℕ → ℕ → Bool
right i x = eqb (place (i / 256) (i % 256)) x

all : T (every right 0 places)
unfolding right places outside_entries inside_entries high_entries place
all = tt

pub equal-replies : EqualReplies
unfolding right places outside_entries inside_entries high_entries
equal-replies i h = eqb→eq _ _ (at right places all i h)
