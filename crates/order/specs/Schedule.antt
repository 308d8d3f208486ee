-- What the records say of links and begins, in the order in which they stand. Definitions alone. Assumes nothing.
use Rattle.std.specs.Prelude.{ℕ, zero, suc, cond, List, [], ◌∷◌, eqb}
use Rattle.ranks.specs.declared.Ordering.{Ordering}
use Rattle.ranks.specs.declared.Ordering.TheVariants.{Link, Begin, Nothing}
use Rattle.order.specs.Links.{Links}

-- the direct predecessors of u by the first i records, newest first
abbrev pub linked_by : Ordering → ℕ → List ℕ → List ℕ
linked_by (Link p v) u ps = cond (eqb v u) (p ∷ ps) ps
linked_by (Begin v) u ps = ps
linked_by Nothing u ps = ps

unfoldable pub linked : (ℕ → Ordering) → ℕ → ℕ → List ℕ
linked op zero u = []
linked op (suc i) u = linked_by (op i) u (linked op i u)

-- the links of the first n records
abbrev pub links_of : (ℕ → Ordering) → ℕ → Links
links_of op n = record { preds = linked op n }
