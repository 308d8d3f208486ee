-- What an arm that binds nothing knows of what a record says is its tag.
-- Assumes nothing.
use Prim.Native.Nat.{ℕ}
use mathlib.Core.Path.{◌≡◌, refl}
use native.Mathlib.Omega.{arith}
use denote.Enum.Declared.{tag_of, declared}
use Rattle.ranks.specs.declared.Ordering.{Ordering}
use Rattle.ranks.specs.declared.Ordering.TheVariants.{Link, Begin, Nothing}
use Rattle.ranks.specs.contracts.Ordering.{enum}

pub link-said : (o : Ordering) → tag_of (declared enum) o ≡ 0 → (p u : ℕ) × (o ≡ Link p u)
link-said (Link p u) e = (p, u, refl)
link-said (Begin u) e = absurd (omega arith)
link-said Nothing e = absurd (omega arith)

pub begin-said : (o : Ordering) → tag_of (declared enum) o ≡ 1 → (u : ℕ) × (o ≡ Begin u)
begin-said (Link p u) e = absurd (omega arith)
begin-said (Begin u) e = (u, refl)
begin-said Nothing e = absurd (omega arith)

pub nothing_said : (o : Ordering) → tag_of (declared enum) o ≡ 2 → o ≡ Nothing
nothing_said (Link p u) e = absurd (omega arith)
nothing_said (Begin u) e = absurd (omega arith)
nothing_said Nothing e = refl
