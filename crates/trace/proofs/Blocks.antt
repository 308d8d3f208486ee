-- The laws of acceptable traces: the records of one event action stand together, links stand between the event actions that they order, and no begin
-- is refused by 31.
-- Assumes nothing.
use Prim.Native.Nat.{ℕ, ◌<◌, ◌≤◌}
use mathlib.Core.Path.{◌≡◌}
use mathlib.Core.Bool.{true, false}
use mathlib.Core.List.{List}
use mathlib.Core.Logic.{◌≢◌, ◌⊎◌, inl, inr}
use native.Mathlib.Omega.{arith}
use lib.Dec.{T}
use lib.ListN.{length}
use Rattle.records.specs.declared.Record.{Record}
use Rattle.records.specs.Records.{at, past, is_begin, is_end, event_of, begun}
use Rattle.records.specs.Kinds.{starts}
use Rattle.records.proofs.Positions.{Found, has-found}
use Rattle.precedence.specs.Table.{blocked}
use Rattle.trace.specs.Rule.{situation, owner}
use Rattle.trace.specs.Reading.{Acceptable}
use Rattle.trace.proofs.Passed as all
use Rattle.trace.proofs.Passed.{AllPass, passing}
use Rattle.trace.proofs.Behind.{rule-passes}
pub use Rattle.trace.proofs.Passed.{Passes}

module _ {tr : List Record} (a : Acceptable tr) where
  abbrev ev : ℕ → ℕ
  ev i = event_of (at tr i)

  abbrev kind : ℕ → ℕ
  kind i = (at tr i).kind

  pub passes_at : (i : ℕ) → i < length tr → Passes (past tr i) (at tr i)
  passes_at i h = passing (past tr i) (at tr i) (rule-passes tr i (a.passes i h)).0

  pub all_pass : AllPass tr (length tr)
  all_pass = record { passes_at = passes_at }

  -- 31
  pub free-at : (i : ℕ) → i < length tr → T (is_begin (at tr i)) → blocked tr i ≡ false
  free-at i h = (rule-passes tr i (a.passes i h)).1

  -- a begin's or a join's event has not begun before
  pub start-fresh : (i : ℕ) → i < length tr → (kind i ≡ 1) ⊎ (kind i ≡ 4) → begun (ev i) (past tr i) ≡ false
  start-fresh = all.start-fresh all_pass

  -- "Each event action's records, its joins included, stand together"
  pub contiguous : (i j k : ℕ) → i < j → j < k → k < length tr → ev i ≡ ev k → ev j ≡ ev i
  contiguous = all.contiguous all_pass

  -- of two event actions, all records of one stand before all of the other
  pub apart : (x x' y y' : ℕ) → x' < length tr → y < length tr → ev x ≡ ev x' → ev y ≡ ev y' → ev x ≢ ev y → x < y → x' < y'
  apart = all.apart all_pass

  -- an event begins at most once
  pub begins_once : (i j : ℕ) → i < length tr → j < length tr → kind i ≡ 1 → kind j ≡ 1 → ev i ≡ ev j → i ≡ j
  begins_once = all.begins_once all_pass

  -- every record's event begins
  pub event-begins : (x : ℕ) → x < length tr → Found tr is_begin (ev x) (length tr)
  unfolding begun
  event-begins x h = has-found tr is_begin (ev x) (length tr) (go (all.begun-before all_pass (length tr) (omega arith) x h))
    where
      go : (begun (ev x) (past tr (length tr)) ≡ true) ⊎ ((situation (past tr (length tr)) ≡ 1) × (owner (past tr (length tr)) ≡ ev x))
          → begun (ev x) (past tr (length tr)) ≡ true
      go (inl b) = b
      go (inr p) = absurd (omega (arith, p.0, a.closed))

  -- a join stands before its event's begin, and any other record but a begin after it
  pub join-before-begin : (i j : ℕ) → i < length tr → kind i ≡ 4 → kind j ≡ 1 → ev i ≡ ev j → i < j
  join-before-begin = all.join-before-begin all_pass

  pub body-after-begin : (i : ℕ) → i < length tr → kind i ≢ 1 → kind i ≢ 4 → Found tr is_begin (ev i) i
  body-after-begin = all.body-after-begin all_pass

  -- an end is its event action's last record
  pub end-last : (i x : ℕ) → i < length tr → x < length tr → kind i ≡ 2 → ev i ≡ ev x → x ≤ i
  end-last = all.end-last all_pass

  -- a fork or a send stands before the begin of the event that it starts
  pub start-before-begin : (i j : ℕ) → i < length tr → T (starts (at tr i)) → kind j ≡ 1 → (at tr i).second ≡ ev j → i < j
  start-before-begin = all.start-before-begin all_pass

  pub fork-before-begin : (i j : ℕ) → i < length tr → kind i ≡ 3 → kind j ≡ 1 → (at tr i).second ≡ ev j → i < j
  fork-before-begin i j h k = start-before-begin i j h (all.fork-starts (at tr i) k)

  -- the event that a join waits for has ended before
  pub join-after-end : (i : ℕ) → i < length tr → kind i ≡ 4 → Found tr is_end (at tr i).second i
  join-after-end = all.join-after-end all_pass
