-- How what the records say of links and begins stands, record by record. Assumes nothing.
use Rattle.std.specs.Prelude.{ℕ, zero, suc, ◌≤◌, ◌<◌, ◌≡◌, ◌↔◌}
use Rattle.ranks.specs.declared.Ordering.{Ordering}
use Rattle.ranks.specs.declared.Ordering.TheVariants.{Link, Begin, Nothing}
use Rattle.order.specs.Links.{Links, ◌∈◌}

-- the begins among the first i records
abbrev pub begins_by : Ordering → ℕ → ℕ
begins_by (Link p u) b = b
begins_by (Begin u) b = suc b
begins_by Nothing b = b

unfoldable pub begins : (ℕ → Ordering) → ℕ → ℕ
begins op zero = 0
begins op (suc i) = begins_by (op i) (begins op i)

-- How a record stands after b begins: event actions begin in order of number, and a link goes from one that has begun to one that has
-- not. Of the first n records:
abbrev pub Stands : ℕ → Ordering → Type 0
Stands b (Link p u) = (p < b) × (b ≤ u)
Stands b (Begin u) = u ≡ b
Stands b Nothing = Unit {0}

abbrev pub Ordered : (ℕ → Ordering) → ℕ → Type 0
Ordered op n = (i : ℕ) → i < n → Stands (begins op i) (op i)

-- the links of those that have begun are the ones that the first n records make
abbrev pub Makes : (ℕ → Ordering) → ℕ → Links → Type 0
Makes op n l = (p u : ℕ) → u < begins op n → (p ∈ l.preds u) ↔ ((i : ℕ) × (i < n) × (op i ≡ Link p u))
