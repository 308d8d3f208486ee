-- Chains of event actions, over any order test. Definitions alone. Assumes nothing.
use Rattle.std.specs.Prelude.{ℕ, zero, suc, ◌+◌, Bool, true, false, cond, List, [], ◌∷◌, eqb, leb, length}

-- the lowest of the k numbers from i on that passes, or the number after them
unfoldable pub first_from : (ℕ → Bool) → ℕ → ℕ → ℕ
first_from q i zero = i
first_from q i (suc k) = cond (q i) i (first_from q (suc i) k)

-- the lowest number below n that passes, or n
abbrev pub first : (ℕ → Bool) → ℕ → ℕ
first q n = first_from q 0 n

-- 1 for a test that passes
abbrev pub bit : Bool → ℕ
bit true = 1
bit false = 0

-- how many numbers below n pass
unfoldable pub count : (ℕ → Bool) → ℕ → ℕ
count q zero = 0
count q (suc n) = count q n + bit (q n)

-- the index of the first element that passes, or the length
unfoldable pub pick : (ℕ → Bool) → List ℕ → ℕ
pick q [] = 0
pick q (m ∷ ms) = cond (q m) 0 (suc (pick q ms))

-- the list with u at c, or with u after its last element where c is the length
unfoldable pub put : List ℕ → ℕ → ℕ → List ℕ
put [] c u = u ∷ []
put (m ∷ ms) zero u = u ∷ ms
put (m ∷ ms) (suc c) u = m ∷ put ms c u

-- "Event actions take chains in order of begin: the lowest-numbered chain, from 0, whose last member happens before the new one, else a
-- new chain."
module _ (le : ℕ → ℕ → Bool) where
  -- the last member of each chain, once the first u event actions have theirs
  unfoldable pub lasts : ℕ → List ℕ
  lasts zero = []
  lasts (suc u) = put (lasts u) (pick (λ m. le m u) (lasts u)) u

  unfoldable pub chain : ℕ → ℕ
  chain u = pick (λ m. le m u) (lasts u)

  -- how many chains the first u event actions take
  unfoldable pub used : ℕ → ℕ
  used u = length (lasts u)

  -- how many of the first u event actions are in chain c
  unfoldable pub members : ℕ → ℕ → ℕ
  members u c = count (λ t. eqb (chain t) c) u

  -- "the chain rule needs more chains than the width; place is the begin that needs one": the first of m event actions whose chain has
  -- no place in the width, or m
  unfoldable pub needs : ℕ → ℕ → ℕ
  needs width m = first (λ u. leb width (chain u)) m
