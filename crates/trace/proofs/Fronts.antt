-- The reading of a trace with sends: what the first pass and the table over the records that passed it give together.
-- Assumes nothing.
use Prim.Native.Nat.{ℕ, ◌<◌, ◌≤◌}
use mathlib.Core.Path.{◌≡◌, sym, ap, ◌∙◌}
use mathlib.Core.List.{List, []}
use mathlib.Core.Logic.{◌⊎◌, inl, inr}
use native.Mathlib.Omega.{arith}
use borrow.Author.Tests.{le-leb, lt-leb}
use lib.ListN.{length, take}
use lib.Seq.{take-length}
use Rattle.records.specs.declared.Record.{Record}
use Rattle.records.specs.declared.Trace.{Trace}
use Rattle.records.specs.Records.{past}
use Rattle.records.proofs.Positions.{lt-or-ge}
use Rattle.links.specs.Fill.{fill_all}
use Rattle.trace.specs.declared.Scanned.{Scanned}
use Rattle.trace.specs.Reply.{gives, demand}
use Rattle.trace.specs.Reading.{walk}
use Rattle.trace.specs.Plain.{Scans, earlier}
use Rattle.trace.proofs.Accepted.{walked}
use Rattle.trace.proofs.Behind.{rule-passes}
use Rattle.trace.proofs.Walks.{free_walk, blocked-walk}
use Rattle.trace.proofs.Whole.{first-blocked}

module _ {tr : List Record} {start m : ℕ} {s : Scanned} (g : Scans tr start m s) where
  -- the earlier of the two refusals is the reading
  pub earlier-is : length tr ≤ 4096 → (k : ℕ) → k ≡ (fill_all (take s.passed tr)).stop → earlier s k ≡ walk start m [] tr
  unfolding earlier demand
  earlier-is few k e = go (lt-or-ge k s.passed)
    where
      go : (k < s.passed) ⊎ (s.passed ≤ k) → earlier s k ≡ walk start m [] tr
      go (inl h) =
          let f = first-blocked g.passes few in
          let q = (fill_all (take s.passed tr)).stop in
          rw (lt-leb s.passed k h, e)
          (blocked-walk tr start m g.passes q (omega arith) f.free (f.is-begin (omega arith)) (f.is_blocked (omega arith)))
      go (inr h) =
          let f = first-blocked g.passes few in
          let w = f.within in
          let q : (fill_all (take s.passed tr)).stop ≡ s.passed = omega arith in
          rw (le-leb s.passed k h) (g.reply ∙ sym (free_walk tr start m g.passes (rw q at f.free)))

  -- an accepted trace: all of its records passed
  pub all-front : (t : Trace) → gives t ≡ walk start m [] tr → take s.passed tr ≡ tr
  unfolding past
  all-front t e = ap (λ (n : ℕ). take n tr) whole ∙ take-length tr
    where
      none : s.passed < length tr → ⊥
      none h =
          let w = walked tr start m (length tr) 0 t (omega arith) e in
          g.passes.next h (rule-passes tr s.passed (w.each s.passed (omega arith) h)).0

      whole : s.passed ≡ length tr
      whole = let w = g.passes.within in omega (arith, none)
