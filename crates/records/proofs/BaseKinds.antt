-- The kind of a record among document 01's six. Assumes nothing.
use Prim.Native.Nat.{◌≤◌, ◌<◌}
use mathlib.Core.Path.{◌≡◌}
use mathlib.Core.Logic.{◌⊎◌, inl, inr}
use native.Mathlib.Omega.{arith}
use borrow.Author.Tests.{le-leb, lt-leb}
use Rattle.records.specs.declared.Record.{Record}
use Rattle.records.specs.Kinds.{base_kind}
use Rattle.records.proofs.Positions.{lt-or-ge}

pub base-known : (r : Record) → r.kind ≤ 6 → base_kind r ≡ r.kind
unfolding base_kind
base-known r h = rw (le-leb r.kind 6 h)

pub base-other : (r : Record) → 6 < r.kind → base_kind r ≡ 0
unfolding base_kind
base-other r h = rw (lt-leb r.kind 6 h)

-- where it isn't 0 it is the record's kind
pub base-kind : (r : Record) → 0 < base_kind r → (base_kind r ≡ r.kind) × (r.kind ≤ 6)
base-kind r h = go (lt-or-ge 6 r.kind)
  where
    go : (6 < r.kind) ⊎ (r.kind ≤ 6) → (base_kind r ≡ r.kind) × (r.kind ≤ 6)
    go (inl k) = absurd (omega (arith, base-other r k))
    go (inr k) = (base-known r k, k)
