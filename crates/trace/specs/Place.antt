-- "Place is decided by a constant table of 3 situations (between event actions, after a join, inside one) times 256 kind bytes, 768 entries: the
-- next situation, unknown kind, or out of place."
-- Assumes nothing.
use Rattle.std.specs.Prelude.{ℕ, ◌/◌, ◌%◌, ◌<◌, ◌≡◌, cond, ◌&&◌, ◌||◌, List, ◌∷◌, ◌++◌, leb, ltb, eqb, get_or, replicate}

abbrev pub between : ℕ
between = 0

abbrev pub after_join : ℕ
after_join = 1

abbrev pub inside : ℕ
inside = 2

abbrev pub unknown_kind : ℕ
unknown_kind = 3

abbrev pub out_of_place : ℕ
out_of_place = 4

-- "An event action is joins (perhaps none), begin, then forks, reads and writes, then end. Its joins stand directly before its begin."
-- Kinds 1 to 6 are begin, end, fork, join, read, write. "Kinds 16 to 19 are sends on links 0 to 3: placed like a fork". A situation above 2 counts as 2.
unfoldable pub place : ℕ → ℕ → ℕ
place s k =
    cond (leb 1 k && leb k 6)
    (cond (ltb s 2)
    (cond (eqb k 1) inside (cond (eqb k 4) after_join out_of_place))
    (cond (eqb k 2) between (cond (eqb k 3 || leb 5 k) inside out_of_place)))
    (cond (leb 16 k && leb k 19) (cond (ltb s 2) out_of_place inside) unknown_kind)

-- The 768 entries, situation by situation: kinds 0 to 6, 9 that are unknown, the four sends, and 236 more that are unknown.
unfoldable pub high_entries : ℕ → List ℕ
high_entries sent = replicate 9 unknown_kind ++ (replicate 4 sent ++ replicate 236 unknown_kind)

unfoldable pub outside_entries : List ℕ
outside_entries = unknown_kind ∷ inside ∷ out_of_place ∷ out_of_place ∷ after_join ∷ out_of_place ∷ out_of_place ∷ high_entries out_of_place

unfoldable pub inside_entries : List ℕ
inside_entries = unknown_kind ∷ out_of_place ∷ between ∷ inside ∷ out_of_place ∷ inside ∷ inside ∷ high_entries inside

unfoldable pub places : List ℕ
places = outside_entries ++ (outside_entries ++ inside_entries)

-- "decided by cases of the kind instead, with equal replies for all 256 kind bytes in all three situations"
abbrev pub EqualReplies : Type 0
EqualReplies = (i : ℕ) → i < 768 → place (i / 256) (i % 256) ≡ get_or places i 0
