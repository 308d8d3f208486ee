-- What raising makes of rows, event action by event action, over any rows R of those before. Definitions alone. Assumes nothing.
use Rattle.std.specs.Prelude.{ℕ, zero, suc, ◌+◌, ◌≤◌, ◌<◌, max, ◌≡◌, cond, List, [], ◌∷◌, eqb}
use Rattle.coverage.specs.Setting.{Setting}
use Rattle.order.specs.Chains.{bit}
use Rattle.order.specs.Clocks.{largest}

module _ (firsts : ℕ → List ℕ) (R : ℕ → ℕ → ℕ) where
  -- the row merged with the rows of the firsts of b's edges
  abbrev pub raised_by : (ℕ → ℕ) → ℕ → ℕ → ℕ
  raised_by row b c = max (row c) (largest (firsts b) (λ v. R v c))

  -- the row after all seconds of the list
  unfoldable pub row_after : (ℕ → ℕ) → List ℕ → ℕ → ℕ
  row_after row [] c = row c
  row_after row (b ∷ bs) c = row_after (raised_by row b) bs c

  -- the row when second x of the list is met, before its own edges
  unfoldable pub row_so_far : (ℕ → ℕ) → List ℕ → ℕ → ℕ → ℕ
  row_so_far row [] x c = row c
  row_so_far row (b ∷ bs) x c = cond (eqb b x) (row c) (row_so_far (raised_by row b) bs x c)

-- "the largest of the direct predecessors' rows, entry by entry, with 1 added at its own chain"
abbrev pub start_of : (ch : ℕ → ℕ) → (ℕ → List ℕ) → (ℕ → ℕ → ℕ) → ℕ → ℕ → ℕ
start_of ch preds R u c = largest (preds u) (λ p. R p c) + bit (eqb (ch u) c)

-- the seconds of event e from record n on, in trace order: of edges, all of them
pub data Seconds (t : Setting) (E : ℕ → ℕ → Type 0) (e : ℕ) : ℕ → List ℕ → Type 0 where
  none : {n : ℕ} → ((c d : ℕ) → E c d → t.ev d ≡ e → d < n) → Seconds t E e n []
  then : {n b : ℕ} {bs : List ℕ} → n ≤ b → b < t.size → t.ev b ≡ e → ((c d : ℕ) → E c d → t.ev d ≡ e → d < b → d < n) → Seconds t E e (suc b) bs →
      Seconds t E e n (b ∷ bs)

-- the records of event e among the k from n on
unfoldable pub records_from : Setting → ℕ → ℕ → ℕ → List ℕ
records_from t e n zero = []
records_from t e n (suc k) = cond (eqb (t.ev n) e) (n ∷ records_from t e (suc n) k) (records_from t e (suc n) k)
