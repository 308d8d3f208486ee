-- Sets of event actions, and their rows: for each chain how many of its members are in the set. Over any chain function; the sets are those
-- of which happens-before rows and cover rows are made. Definitions alone. Assumes nothing.
use Rattle.std.specs.Prelude.{ℕ, suc, ◌+◌, ◌≤◌, ◌<◌, ◌≡◌, Bool, ◌&&◌, T, eqb}
use Rattle.order.specs.Links.{Links, along}
use Rattle.order.specs.Chains.{bit, count}
use Rattle.order.specs.Clocks.{largest}

module _ (ch : ℕ → ℕ) where
  -- t is a member of chain c and in the set
  abbrev pub is_in : (ℕ → Bool) → ℕ → ℕ → Bool
  is_in p c t = eqb (ch t) c && p t

  -- the row of a set at chain c, of the event actions below n
  unfoldable pub row : (ℕ → Bool) → ℕ → ℕ → ℕ
  row p n c = count (is_in p c) n

  -- the number of members of t's chain up to t: t's own entry
  unfoldable pub index : ℕ → ℕ
  index t = count (λ s. eqb (ch s) (ch t)) (suc t)

  -- below n the set has of each chain the first members: with a member, all earlier ones
  abbrev pub Initial : ℕ → (ℕ → Bool) → Type 0
  Initial n p = (s t : ℕ) → s ≤ t → t < n → ch s ≡ ch t → T (p t) → T (p s)

  -- "the largest of the direct predecessors' rows, entry by entry, with 1 added at its own chain", over any chain function
  unfoldable pub entry_by : Links → ℕ → ℕ → ℕ
  entry_by l u c = along 0 (λ v r. largest (l.preds v) r + bit (eqb (ch v) c)) u

  abbrev pub merged_with : Links → ℕ → ℕ → ℕ
  merged_with l u c = largest (l.preds u) (λ p. entry_by l p c)

-- A set for each of the first m event actions: it holds the event action itself, nothing that begins later, and of each chain the first
-- members. W u t: t is in the set of u.
pub record Family (m : ℕ) (ch : ℕ → ℕ) (W : ℕ → ℕ → Bool) : Type 0 where
  pub self : (u : ℕ) → u < m → T (W u u)
  pub ahead : (u t : ℕ) → u < m → t < m → T (W u t) → t ≤ u
  pub initial : (u : ℕ) → u < m → Initial ch m (W u)
