use borrow.Author.Tests.{eq-eqb, ne_eqb, lt-leb, le-leb}
use Rattle.trace.specs.Rule.{again}
use Rattle.trace.proofs.rule.is_again.Goals as goal

pub returns-then-kind-eq3 : goal.returns-then-kind-eq3
unfolding again
returns-then-kind-eq3 c = simp (eq-eqb _ _ c.if-kind-eq3.true)

pub returns-then-kind-eq1 : goal.returns-then-kind-eq1
unfolding again
returns-then-kind-eq1 c = rw c.if-kind-eq1.true

pub returns-then-kind-eq4 : goal.returns-then-kind-eq4
unfolding again
returns-then-kind-eq4 c = rw c.if-kind-eq4.true

pub returns-then-kind-lt16 : goal.returns-then-kind-lt16
unfolding again
returns-then-kind-lt16 c =
    let at-if1 = c in
    simp (ne_eqb _ _ at-if1.if-kind-eq3.false, ne_eqb _ _ c.if-kind-eq1.false, ne_eqb _ _ c.if-kind-eq4.false, lt-leb _ _ c.if-kind-lt16.true)

pub returns-then-kind-gt19 : goal.returns-then-kind-gt19
unfolding again
returns-then-kind-gt19 c =
    let at-if1 = c in
    simp (
      ne_eqb _ _ at-if1.if-kind-eq3.false,
      ne_eqb _ _ c.if-kind-eq1.false,
      ne_eqb _ _ c.if-kind-eq4.false,
      le-leb _ _ c.if-kind-lt16.false,
      lt-leb _ _ c.if-kind-gt19.true,
    )

pub returns : goal.returns
unfolding again
returns c = simp (le-leb _ _ c.if-kind-lt16.false, le-leb _ _ c.if-kind-gt19.false, ne_eqb _ _ c.if-kind-eq3.false)
