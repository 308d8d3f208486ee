-- Clock rows and the comparison by which the order question is answered. Definitions alone. Assumes nothing.
use Rattle.std.specs.Prelude.{ℕ, zero, suc, ◌+◌, max, Bool, List, [], ◌∷◌, ◌++◌, eqb, leb}
use Rattle.order.specs.Links.{Links, along, leq}
use Rattle.order.specs.Chains.{bit, chain}

-- the largest value that f has in the list, 0 where the list is empty
unfoldable pub largest : List ℕ → (ℕ → ℕ) → ℕ
largest [] f = 0
largest (p ∷ ps) f = max (f p) (largest ps f)

-- f 0, .., f (n - 1)
unfoldable pub table : ℕ → (ℕ → ℕ) → List ℕ
table zero f = []
table (suc n) f = table n f ++ (f n ∷ [])

-- one row after another: the rows of m event actions at a width
unfoldable pub flat : ℕ → ℕ → (ℕ → ℕ → ℕ) → List ℕ
flat width zero rows = []
flat width (suc m) rows = flat width m rows ++ table width (rows m)

module _ (l : Links) where
  -- the chain of an event action under happens-before
  abbrev pub chain_of : ℕ → ℕ
  chain_of u = chain (leq l) u

  -- "the largest of the direct predecessors' rows, entry by entry, with 1 added at its own chain; unused entries are 0": the entry of u's
  -- row at chain c
  unfoldable pub entry : ℕ → ℕ → ℕ
  entry u c = along 0 (λ v r. largest (l.preds v) r + bit (eqb (chain_of v) c)) u

  -- the same before 1 is added
  abbrev pub merged : ℕ → ℕ → ℕ
  merged u c = largest (l.preds u) (λ p. entry p c)

  -- "A clock row has one 16-bit entry per chain, one row after another in begin order"
  unfoldable pub clocks_of : ℕ → ℕ → List ℕ
  clocks_of width m = flat width m entry

  -- "compares t's entry at t's chain in both rows"
  unfoldable pub compare : ℕ → ℕ → Bool
  compare t u = leb (entry t (chain_of t)) (entry u (chain_of t))
