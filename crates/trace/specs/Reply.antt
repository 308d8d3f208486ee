-- What a call answers: refused, or what it gives. Assumes nothing.
use Rattle.std.specs.Prelude.{ℕ, zero, suc, Bool, true, false}

-- "A refusal gives its number and a record number, 0 where no record is concerned."
pub data Reply (A : Type 0) : Type 0 where
  refused : ℕ → ℕ → Reply A
  gives : A → Reply A

-- next where the test passes, else refusal n with its place
unfoldable pub demand : {A : Type 0} → Bool → ℕ → ℕ → Reply A → Reply A
demand true n p next = next
demand false n p next = refused n p

-- the refusal with this number and place, or next where the number is 0
unfoldable pub or_else : {A : Type 0} → ℕ → ℕ → Reply A → Reply A
or_else zero p next = next
or_else (suc n) p next = refused (suc n) p

-- what comes next, by what was given; a refusal stays
unfoldable pub then : {A B : Type 0} → Reply A → (A → Reply B) → Reply B
then (refused n p) next = refused n p
then (gives a) next = next a

-- "Except where stated, lent memory is unchanged.": as it was where the call is refused, else by what was given
unfoldable pub unless : {A B : Type 0} → Reply A → B → (A → B) → B
unless (refused n p) was by = was
unless (gives a) was by = by a
