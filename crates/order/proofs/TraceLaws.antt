-- Happens-before of an acceptable trace is reflexive, transitive, antisymmetric on what has records, and goes forward in the trace.
-- Assumes nothing.
use Prim.Native.Nat.{ℕ, ◌<◌}
use mathlib.Core.Path.{◌≡◌, refl}
use mathlib.Core.List.{List}
use mathlib.Core.Logic.{◌≢◌}
use lib.Dec.{T}
use lib.ListN.{length}
use Rattle.records.specs.declared.Record.{Record}
use Rattle.records.specs.Records.{at}
use Rattle.trace.specs.Reading.{Acceptable}
use Rattle.precedence.specs.Before.{same, path}
use Rattle.precedence.proofs.Theorems as precedence
use Rattle.order.specs.HappensBefore.{Link, happens_before}
use Rattle.trace.proofs.Whole.{accepted-whole}
use Rattle.order.proofs.TraceOrder.{record-begins, test-is, happens-before, before-happens}

module _ {tr : List Record} (a : Acceptable tr) where
  abbrev ev : ℕ → ℕ
  ev i = (at tr i).first

  pub link_apart : {t u : ℕ} → Link tr t u → t ≢ u
  link_apart k = precedence.link-differs (accepted-whole a) k

  pub link-record : {t u : ℕ} → Link tr t u → (y : ℕ) × (y < length tr) × (ev y ≡ u)
  link-record k = precedence.link-record (accepted-whole a) k

  -- the laws, of the test
  pub le_refl : (u : ℕ) → T (happens_before tr u u)
  le_refl u = happens-before a u u (same refl)

  pub le_trans : (u v w : ℕ) → T (happens_before tr u v) → T (happens_before tr v w) → T (happens_before tr u w)
  le_trans u v w h k = happens-before a u w (path (before-happens a u v h) (before-happens a v w k))

  pub forward : (i j : ℕ) → i < length tr → j < length tr → T (happens_before tr (ev i) (ev j)) → ev i ≢ ev j → i < j
  forward i j h k l n = precedence.forward (accepted-whole a).sound i j h k (record-begins a j k) (before-happens a (ev i) (ev j) l) n

  -- "antisymmetric on begun events"
  pub antisymmetric : (i j : ℕ) → i < length tr → j < length tr → T (happens_before tr (ev i) (ev j)) → T (happens_before tr (ev j) (ev i)) → ev i ≡ ev j
  antisymmetric i j h k l m =
      precedence.antisymmetric (accepted-whole a).sound (ev i) (ev j) (before-happens a (ev i) (ev j) l) (before-happens a (ev j) (ev i) m)

  pub link-le : {t u : ℕ} → Link tr t u → T (happens_before tr t u)
  link-le {t} {u} k = rw (test-is a t u) (precedence.link-holds (accepted-whole a) k)

  pub first-link : (u w : ℕ) → T (happens_before tr u w) → u ≢ w → (v : ℕ) × Link tr u v × T (happens_before tr v w)
  first-link u w h n =
      let (v, k, l) = precedence.first (accepted-whole a) u w (rw (test-is a u w) at h) n in
      (v, k, rw (test-is a v w) l)
