-- The list of ranks after one record more.
-- Assumes nothing.
use Prim.Native.Nat.{ℕ, zero, suc, ◌+◌, ◌%◌}
use mathlib.Core.Path.{◌≡◌, refl, ap, ◌∙◌}
use mathlib.Core.Bool.{Bool, true, false}
use mathlib.Core.List.{List}
use native.Mathlib.Numerals.{add-one}
use lib.ListN.{length, length-set, length-replicate}
use Rattle.records.specs.declared.Record.{Record}
use Rattle.records.specs.Records.{at, past, is_begin, begins}
use Rattle.slices.specs.Slices.{filled}
use Rattle.ranks.specs.Ranks.{with_rank, rank_if, ranks_upto, ranks_of}
use Rattle.ranks.specs.loops.RanksTo.{RanksTo}

rank-if-length : (b : Bool) (m : List ℕ) (e k : ℕ) → length (rank_if b m e k) ≡ length m
unfolding with_rank
rank-if-length true m e k = length-set m e (k % 65536)
rank-if-length false m e k = refl

pub ranks-length : (tr : List Record) (i : ℕ) → length (ranks_upto tr i) ≡ 1025
unfolding ranks_upto filled
ranks-length tr zero = length-replicate {A = ℕ} 1025 0
ranks-length tr (suc i) = rank-if-length (is_begin (at tr i)) (ranks_upto tr i) (at tr i).first (begins (past tr i) + 1) ∙ ranks-length tr i

pub ranks-more : (tr : List Record) (i : ℕ) → ranks_upto tr (i + 1) ≡ rank_if (is_begin (at tr i)) (ranks_upto tr i) (at tr i).first (begins (past tr i) + 1)
unfolding ranks_upto
ranks-more tr i = rw add-one

pub ranks-same : {tr : List Record} {i : ℕ} {ranks : List ℕ} {found : ℕ} (j : ℕ) → i ≡ j → RanksTo tr i ranks found → RanksTo tr j ranks found
ranks-same {tr} j e r = record { ranks_are = r.ranks_are ∙ ap (ranks_upto tr) e; begins_are = r.begins_are ∙ ap (λ (k : ℕ). begins (past tr k)) e }

pub ranks-many : (tr : List Record) → length (ranks_of tr) ≡ 1025
unfolding ranks_of
ranks-many tr = ranks-length tr (length tr)
