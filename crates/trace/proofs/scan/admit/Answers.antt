use mathlib.Core.Path.{◌∙◌}
use borrow.Author.Tests.{ne_eqb}
use native.Mathlib.Omega.{arith}
use Rattle.trace.specs.Rule.{again, early}
use Rattle.trace.specs.loops.Status.{noted}
use Rattle.trace.proofs.scan.admit.Goals as goal

pub returns-then-has_begun : goal.returns-then-has_begun
unfolding again
returns-then-has_begun c = (simp (c.in-1.is, ← c.has_begun.ensures, c.if-has_begun.true), λ z. absurd (omega arith))

pub returns-else-has_begun : goal.returns-else-has_begun
unfolding again early noted
returns-else-has_begun c =
    let is = c.in-1.is in
    (simp (is, ← c.has_begun.ensures, c.if-has_begun.false), λ z. c.note.ensures ∙ simp is)

pub returns-in-2 : goal.returns-in-2
unfolding again early noted
returns-in-2 c =
    let is = c.in-2.is in
    (simp is, λ z. c.note-in-2.ensures ∙ simp is)

pub returns-in_default : goal.returns-in_default
unfolding noted
returns-in_default c =
    (simp (← c.has_begun-in_default.ensures, ← c.has_begun-in_default-2.ensures, ← c.has_ended.ensures) c.order_fault.ensures, λ z. simp (ne_eqb c.args.r.kind 1 (λ e. omega arith), ne_eqb c.args.r.kind 2 (λ e. omega arith)))
