-- The numbers below a bound: is there one that passes a test; those that do, in order; and the pairs that do. Assumes nothing.
use Rattle.std.specs.Prelude.{ℕ, zero, suc, ◌<◌, ◌≡◌, ◌⊎◌, Bool, true, false, ◌||◌}
use mathlib.Core.List.{List, [], ◌∷◌, ◌++◌, map, Memᴰ}

infix 4 ◌∈◌ ◌∉◌
abbrev pub ◌∈◌ : ℕ → List ℕ → Type 0
x ∈ l = Memᴰ x l

abbrev pub ◌∉◌ : ℕ → List ℕ → Type 0
x ∉ l = x ∈ l → ⊥

-- is there an i < m with p i?
unfoldable pub some : ℕ → (ℕ → Bool) → Bool
some zero p = false
some (suc m) p = p m || some m p

-- the i < m with p i, in increasing order
abbrev pub only : Bool → ℕ → List ℕ
only true i = i ∷ []
only false i = []

unfoldable pub upto : ℕ → (ℕ → Bool) → List ℕ
upto zero p = []
upto (suc m) p = upto m p ++ only (p m) m

-- the pairs a < b < m with p a b, "ordered by second record, then first"
unfoldable pub pairs : ℕ → (ℕ → ℕ → Bool) → List (ℕ × ℕ)
pairs zero p = []
pairs (suc b) p = pairs b p ++ map (λ a. (a, b)) (upto b (λ a. p a b))

-- the pair (a, b) stands in the list
abbrev pub Listed : ℕ → ℕ → List (ℕ × ℕ) → Type 0
Listed a b l = Memᴰ {A = ℕ × ℕ} (a, b) l

-- "ordered by second record, then first"
abbrev pub Sooner : ℕ × ℕ → ℕ × ℕ → Type 0
Sooner p q = (p.1 < q.1) ⊎ ((p.1 ≡ q.1) × (p.0 < q.0))

abbrev pub Ordered : List (ℕ × ℕ) → Type 0
Ordered [] = Unit {0}
Ordered (p ∷ ps) = ((q : ℕ × ℕ) → Memᴰ q ps → Sooner p q) × Ordered ps
