-- "Plausible and false": four other readings of cover, each with a small trace on which it differs. `refl` computes them.
use Prim.Native.Nat.{ℕ, zero, suc, ◌+◌, ◌≤◌, ◌<◌, ◌/◌}
use mathlib.Core.Path.{◌≡◌, refl}
use mathlib.Core.Logic.{◌≢◌, ◌⊎◌, inl, inr}
use mathlib.Core.Bool.{Bool, true, false, not, ◌&&◌, ◌||◌}
use mathlib.Core.List.{List, [], ◌∷◌}
use native.Mathlib.Nat.{le-div_iff_mul-le, div-mul-le_self}
use native.Mathlib.Omega.{arith}
use lib.Dec.{T, ltb, eqb, eqb→eq}
use lib.ListN.{get_or, length}
use Rattle.coverage.specs.Below.{some, upto, pairs}
use Rattle.coverage.specs.Setting.{Setting, Laws}
use Rattle.coverage.specs.Race.{before, raceb}
use Rattle.coverage.specs.Leading.{reach, leads, coveredb}
use Rattle.coverage.specs.Neighbours.{Cells, conflicts}
use Rattle.slices.proofs.Tests.{either, or_left, or_right, eq→eqb}

-- Small traces: what each record accesses, `none` where nothing. Every k records are an event action, numbered from `first` on, and event
-- action 1 starts all others.
abbrev none : ℕ × Bool
none = (0, false)

abbrev read : ℕ → ℕ × Bool
read c = (c, false)

abbrev write : ℕ → ℕ × Bool
write c = (c, true)

abbrev cells : List (ℕ × Bool) → Cells
cells l = record { cell = λ i. (get_or l i none).0; is_access = λ i. ltb 0 (get_or l i none).0; is_write = λ i. (get_or l i none).1 }

abbrev sample : ℕ → ℕ → List (ℕ × Bool) → Setting
sample first k l = record { size = length l; ev = λ i. first + i / k; conf = conflicts (cells l); le = λ u v. eqb u v || eqb u 1 }

module _ (first k : ℕ) (named : 0 < first) (long : 0 < k) (l : List (ℕ × Bool)) where
  rises : (i j : ℕ) → i ≤ j → first + i / k ≤ first + j / k
  rises i j h = let d : i / k ≤ j / k = (le-div_iff_mul-le long).1 (omega (arith, div-mul-le_self i k)) in omega arith

  cases : (u v : ℕ) → T (eqb u v || eqb u 1) → (u ≡ v) ⊎ (u ≡ 1)
  cases u v h = go (either (eqb u v) (eqb u 1) h)
    where
      go : T (eqb u v) ⊎ T (eqb u 1) → (u ≡ v) ⊎ (u ≡ 1)
      go (inl e) = inl (eqb→eq u v e)
      go (inr e) = inr (eqb→eq u 1 e)

  of-cases : (u v : ℕ) → (u ≡ v) ⊎ (u ≡ 1) → T (eqb u v || eqb u 1)
  of-cases u v (inl e) = or_left (eqb u v) (eqb u 1) (eq→eqb u v e)
  of-cases u v (inr e) = or_right (eqb u v) (eqb u 1) (eq→eqb u 1 e)

  pub sample-laws : Laws (sample first k l)
  sample-laws = record {
    le_refl = λ u. of-cases u u (inl refl);
    le_trans = λ u v w h g. of-cases u w (trans u v w (cases u v h) (cases v w g));
    forward = λ i j _ _ h n. ahead i j n (cases (first + i / k) (first + j / k) h);
    contiguous = λ i j m f g _ e. let p = rises i j (omega arith) in let q = rises j m (omega arith) in omega arith;
  }
    where
      trans : (u v w : ℕ) → (u ≡ v) ⊎ (u ≡ 1) → (v ≡ w) ⊎ (v ≡ 1) → (u ≡ w) ⊎ (u ≡ 1)
      trans u v w (inl e) (inl f) = inl (omega arith)
      trans u v w (inl e) (inr f) = inr (omega arith)
      trans u v w (inr e) _ = inr e

      ahead : (i j : ℕ) → first + i / k ≢ first + j / k → (first + i / k ≡ first + j / k) ⊎ (first + i / k ≡ 1) → i < j
      ahead i j n (inl e) = absurd (n e)
      ahead i j n (inr e) = let g : j ≤ i → ⊥ = λ (h : j ≤ i). let q = rises j i h in n (omega arith) in omega (arith, g)

-- Trace T, and T with the cells of records 10 and 11 exchanged. A record's number in document 01 is one more than its place here.
abbrev accesses₁ : List (ℕ × Bool)
accesses₁ = none ∷ none ∷ none ∷ none ∷ none ∷ write 1 ∷ write 2 ∷ none ∷ none ∷ read 2 ∷ read 1 ∷ none ∷ []

abbrev T₁ : Setting
T₁ = sample 1 4 accesses₁

abbrev accesses₂ : List (ℕ × Bool)
accesses₂ = none ∷ none ∷ none ∷ none ∷ none ∷ write 1 ∷ write 2 ∷ none ∷ none ∷ read 1 ∷ read 2 ∷ none ∷ []

abbrev T₂ : Setting
T₂ = sample 1 4 accesses₂

-- two writes of one event action and a read of another
abbrev accesses₃ : List (ℕ × Bool)
accesses₃ = write 1 ∷ write 1 ∷ read 1 ∷ none ∷ []

abbrev twice : Setting
twice = sample 2 2 accesses₃

-- a race on cell 1, covered by a race on cell 2 and one on cell 3
abbrev accesses₄ : List (ℕ × Bool)
accesses₄ = write 1 ∷ write 2 ∷ read 2 ∷ write 3 ∷ read 3 ∷ read 1 ∷ []

abbrev relay : Setting
relay = sample 2 2 accesses₄

-- All four have the laws.
pub samples : Laws T₁ × Laws T₂ × Laws twice × Laws relay
samples = (sample-laws 1 4 (omega arith) (omega arith) accesses₁, sample-laws 1 4 (omega arith) (omega arith) accesses₂, sample-laws 2 2 (omega arith) (omega arith) accesses₃, sample-laws 2 2 (omega arith) (omega arith) accesses₄)

module _ (t : Setting) where
  -- cover with another condition on its first race's first record and on its last race's second, and with at most k races after the first
  module _ (starts ends : ℕ → ℕ → Bool) where
    abbrev onward : ℕ → ℕ → ℕ → Bool
    onward b zero u = false
    onward b (suc k) u = some t.size (λ c. some t.size (λ d. let rest = onward b k (t.ev d) in (raceb t c d && t.le u (t.ev c)) && (ends d b || rest)))

    abbrev covered : ℕ → ℕ → ℕ → Bool
    covered k a b = some t.size (λ c. some t.size (λ d. let rest = onward b k (t.ev d) in (raceb t c d && starts a c) && (ends d b || rest)))

  abbrev le-ev : ℕ → ℕ → Bool
  le-ev a c = t.le (t.ev a) (t.ev c)

  -- as document 01 has it
  abbrev stated : ℕ → ℕ → Bool
  stated = covered le-ev (before t) t.size

  -- "dn = b taken as cover"
  abbrev end-itself : ℕ → ℕ → Bool
  end-itself = covered le-ev (λ d b. before t d b || eqb d b) t.size

  -- "ev(d) ≼ ev(b) for d ≼ b"
  abbrev end-event : ℕ → ℕ → Bool
  end-event = covered le-ev le-ev t.size

  -- "a ≼ c for ev(a) ≼ ev(c)"
  abbrev start-record : ℕ → ℕ → Bool
  start-record = covered (before t) (before t) t.size

  -- "Cover by one race only"
  abbrev one-race : ℕ → ℕ → Bool
  one-race = covered le-ev (before t) 0

  -- the races that a reading leaves open
  abbrev opens : (ℕ → ℕ → Bool) → List (ℕ × ℕ)
  opens reading = pairs t.size (λ a b. raceb t a b && not (reading a b))

  -- and those that are open
  abbrev opened : List (ℕ × ℕ)
  opened = opens (coveredb t)

-- "dn = b taken as cover: two races from one event action into one read would hide each other."
pub end-itself-false : (opens twice (end-itself twice) ≡ []) × (opened twice ≡ (0, 2) ∷ (1, 2) ∷ [])
unfolding pairs upto leads reach some raceb before conflicts
end-itself-false = (refl, refl)

-- "ev(d) ≼ ev(b) for d ≼ b: T would have nothing open."
pub end-event-false : (opens T₁ (end-event T₁) ≡ []) × (opened T₁ ≡ (6, 9) ∷ [])
unfolding pairs upto leads reach some raceb before conflicts
end-event-false = (refl, refl)

-- "a ≼ c for ev(a) ≼ ev(c): 7 11 in the exchanged T would be open."
pub start-record-false : (opens T₂ (start-record T₂) ≡ (5, 9) ∷ (6, 10) ∷ []) × (opened T₂ ≡ (5, 9) ∷ [])
unfolding pairs upto leads reach some raceb before conflicts
start-record-false = (refl, refl)

-- "Cover by one race only."
pub one-race-false : (opens relay (one-race relay) ≡ (1, 2) ∷ (3, 4) ∷ (0, 5) ∷ []) × (opened relay ≡ (1, 2) ∷ (3, 4) ∷ [])
unfolding pairs upto leads reach some raceb before conflicts
one-race-false = (refl, refl)

-- Document 01's own reading, said in the same way, is `leads`: on each of these.
pub stated-agrees : (opens twice (stated twice) ≡ opened twice) × (opens T₁ (stated T₁) ≡ opened T₁) × (opens T₂ (stated T₂) ≡ opened T₂) × (opens relay (stated relay) ≡ opened relay)
unfolding pairs upto leads reach some raceb before conflicts
stated-agrees = (refl, refl, refl, refl)
