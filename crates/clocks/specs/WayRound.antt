-- "The order question is to say one of four: same event action, first happens before second, second before first, unordered." Assumes nothing.
use Rattle.std.specs.Prelude.{ℕ, Bool, true, false, ◌&&◌, List, eqb, leb}
use Rattle.clocks.specs.declared.Relation.{Relation}
use Rattle.clocks.specs.declared.Relation.TheVariants.{Same, Before, After, Unordered}
use Rattle.clocks.specs.Rows.{compare_in}

pub data WayRound : Type 0 where
  same_action : WayRound
  first_before : WayRound
  second_before : WayRound
  unordered : WayRound

abbrev pub relation_paper : Relation → WayRound
relation_paper Same = same_action
relation_paper Before = first_before
relation_paper After = second_before
relation_paper Unordered = unordered

-- By three tests: the same, first before second, second before first. "Equal event numbers give the first reply over any clocks; where foreign clocks
-- would allow both orders, first before second is the reply."
abbrev pub way_round : Bool → Bool → Bool → WayRound
way_round true first second = same_action
way_round false true second = first_before
way_round false false true = second_before
way_round false false false = unordered

-- rows t and u in any clocks, where c is t's chain and d is u's
unfoldable pub relate_in : List ℕ → ℕ → ℕ → ℕ → ℕ → ℕ → WayRound
relate_in clocks width t c u d = way_round (eqb t u) (compare_in clocks width c t u) (compare_in clocks width d u t)

-- the same by entries: t's own and u's at t's chain, u's own and t's at u's chain. Rows that are the same have equal entries, so it is the reply of their
-- rows: `by_entries` in `proofs/WayLaws`.
unfoldable pub relate_entries : Bool → ℕ → ℕ → ℕ → ℕ → WayRound
relate_entries same own there second back = way_round (leb own there && same) (leb own there) (leb second back)

-- what a reply says of the first and the second: neither happens before the other; "t happens before u (t ≼ u)", where "t = u" counts
abbrev pub says_unordered : WayRound → Bool
says_unordered same_action = false
says_unordered first_before = false
says_unordered second_before = false
says_unordered unordered = true

abbrev pub says_before : WayRound → Bool
says_before same_action = true
says_before first_before = true
says_before second_before = false
says_before unordered = false
