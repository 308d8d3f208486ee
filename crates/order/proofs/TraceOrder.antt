-- The order of an acceptable trace: its links go forward, and happens-before by event number is happens-before by rank. Assumes nothing.
use Prim.Native.Nat.{ℕ, zero, suc, ◌+◌, ◌<◌}
use mathlib.Core.Path.{◌≡◌, refl, sym, ◌∙◌, subst}
use mathlib.Core.List.{List}
use mathlib.Core.Logic.{◌≢◌, ◌↔◌}
use native.Mathlib.Omega.{arith}
use lib.Dec.{T}
use lib.ListN.{length}
use Rattle.records.specs.declared.Record.{Record}
use Rattle.records.specs.Records.{at}
use Rattle.trace.specs.Reading.{Acceptable}
use Rattle.slices.proofs.Tests.{eq→eqb}
use Rattle.precedence.specs.Table as precedence
use Rattle.precedence.proofs.Theorems.{test-sound, test-complete}
use Rattle.order.specs.Links.{Forward, ◌⊢◌≼◌, ◌∈◌}
use Rattle.order.specs.Rank.{rank}
use Rattle.order.specs.HappensBefore.{Begins, Link, HappensBefore, trace_links, happens_before}
use Rattle.order.proofs.Counted.{counted}
use Rattle.order.proofs.EventRows.{events, name_of}
use Rattle.order.proofs.LinkedTrace as whole
use Rattle.order.proofs.LinkedTrace.{Ranked, Named}
use Rattle.trace.proofs.Whole.{accepted-whole}

module _ {tr : List Record} (a : Acceptable tr) where
  -- an event that begins has a rank, and one with a rank begins
  pub begins-at : {e : ℕ} (b : Begins tr e) → (at tr b.position).kind ≡ 1
  begins-at b = whole.begins-at (accepted-whole a) b

  pub begins-rank : {e : ℕ} (b : Begins tr e) → rank tr e ≡ counted tr b.position + 1
  begins-rank b = whole.begins-rank (accepted-whole a) b ∙ omega arith

  pub ranked : (j : ℕ) → j < length tr → (at tr j).kind ≡ 1 → rank tr (at tr j).first ≡ counted tr j + 1
  ranked j h k = begins-rank (record { position = j; inside = h; is-begin = eq→eqb (at tr j).kind 1 k; of_event = refl })

  pub rank-begins : (e : ℕ) → rank tr e ≢ 0 → Begins tr e
  rank-begins e n = go (rank tr e) refl
    where
      go : (r : ℕ) → rank tr e ≡ r → Begins tr e
      go zero q = absurd (n q)
      go (suc p) q = whole.rank-begins (accepted-whole a) e p q

  pub record-begins : (x : ℕ) → x < length tr → Begins tr (at tr x).first
  record-begins x h = (accepted-whole a).all_begin x h

  pub rank-one : (t u p : ℕ) → rank tr t ≡ suc p → rank tr u ≡ suc p → t ≡ u
  rank-one = whole.rank-one (accepted-whole a)

  pub named : (r : ℕ) → r < events tr → rank tr (name_of tr r) ≡ suc r
  named = whole.named (accepted-whole a)

  -- links by event number and by rank
  pub forward-links : Forward (trace_links tr)
  forward-links = whole.forward-links (accepted-whole a)

  pub link-ranked : {t u : ℕ} → Link tr t u → Ranked (accepted-whole a) t u
  link-ranked k = whole.link-ranked (accepted-whole a) k

  pub linked-named : (p u : ℕ) → p ∈ (trace_links tr).preds u → Named (accepted-whole a) p u
  linked-named = whole.linked-named (accepted-whole a)

  -- happens-before by event number is happens-before by rank
  pub up : {t u : ℕ} (p : ℕ) → rank tr t ≡ suc p → HappensBefore tr t u → (q : ℕ) × (rank tr u ≡ suc q) × (trace_links tr ⊢ p ≼ q)
  up p r h = whole.up (accepted-whole a) p r h

  pub down : {p q : ℕ} (t u : ℕ) → rank tr t ≡ suc p → rank tr u ≡ suc q → trace_links tr ⊢ p ≼ q → HappensBefore tr t u
  down t u r s h = whole.down (accepted-whole a) t u r s h

  -- the test decides
  pub test-is : (t u : ℕ) → happens_before tr t u ≡ precedence.happens_before tr t u
  unfolding happens_before
  test-is t u = whole.test-is (accepted-whole a) t u

  pub happens-before : (t u : ℕ) → HappensBefore tr t u → T (happens_before tr t u)
  happens-before t u h = subst T (sym (test-is t u)) (test-complete (accepted-whole a) t u h)

  pub before-happens : (t u : ℕ) → T (happens_before tr t u) → HappensBefore tr t u
  before-happens t u h = test-sound (accepted-whole a) t u (subst T (test-is t u) h)

  pub decides : (t u : ℕ) → T (happens_before tr t u) ↔ HappensBefore tr t u
  decides t u = (before-happens t u, happens-before t u)
