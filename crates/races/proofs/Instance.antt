-- An acceptable trace is a setting with its laws. Assumes nothing.
use Prim.Native.Nat.{ℕ, ◌<◌, ◌≤◌}
use mathlib.Core.Path.{◌≡◌, subst}
use mathlib.Core.Logic.{◌⊎◌, inl, inr}
use mathlib.Core.List.{List}
use lib.Dec.{T, eqb→eq}
use lib.ListN.{length, get_or-eq_default}
use Rattle.records.specs.declared.Record.{Record}
use Rattle.records.specs.Records.{at, no_record, is_read, is_write}
use Rattle.trace.specs.Reading.{Acceptable}
use Rattle.records.proofs.Positions.{lt-or-ge}
use Rattle.trace.proofs.Blocks as blocks
use Rattle.order.specs.HappensBefore.{Link}
use Rattle.order.proofs.TraceLaws as order
use Rattle.coverage.specs.Setting.{Laws}
use Rattle.slices.proofs.Tests.{either}
use Rattle.coverage.proofs.Steps.{Links, GoOn}
use Rattle.races.specs.Traces.{is_access, setting_of}

module _ {tr : List Record} (a : Acceptable tr) where
  pub laws : Laws (setting_of tr)
  laws = record {
    le_refl = order.le_refl a;
    le_trans = order.le_trans a;
    forward = order.forward a;
    contiguous = blocks.contiguous a;
  }

  pub links : Links (setting_of tr) (Link tr)
  links = record { sound = λ k. order.link-le a k; first = order.first-link a }

  pub go_on : GoOn (setting_of tr) (Link tr)
  go_on = record { apart = λ k. order.link_apart a k; begun = λ k. order.link-record a k }

-- an access is a read or a write
pub access-kind : (r : Record) → T (is_access r) → (r.kind ≡ 5) ⊎ (r.kind ≡ 6)
access-kind r h = go (either (is_read r) (is_write r) h)
  where
    go : T (is_read r) ⊎ T (is_write r) → (r.kind ≡ 5) ⊎ (r.kind ≡ 6)
    go (inl k) = inl (eqb→eq r.kind 5 k)
    go (inr k) = inr (eqb→eq r.kind 6 k)

-- past the end there is no access
pub access-inside : (tr : List Record) (i : ℕ) → T (is_access (at tr i)) → i < length tr
access-inside tr i h = go (lt-or-ge i (length tr))
  where
    go : (i < length tr) ⊎ (length tr ≤ i) → i < length tr
    go (inl l) = l
    go (inr l) = absurd (subst (λ (r : Record). T (is_access r)) (get_or-eq_default tr no_record {n = i} l) h)
