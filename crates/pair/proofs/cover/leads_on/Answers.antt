use mathlib.Core.Bool.{true, false}
use mathlib.Core.Path.{◌≡◌, sym, ap, ◌∙◌}
use borrow.Author.Tests.{le-leb, lt-leb}
use Rattle.clocks.specs.WayRound.{says_unordered, says_before}
use Rattle.pair.specs.loops.PairSearch.{goes_on}
use Rattle.pair.proofs.cover.leads_on.Goals as goal
use Rattle.pair.proofs.cover.leads_on.Goals.{then-kind-le6 as access, else-kind-le6 as send}

pub returns-then-is_unordered : goal.returns-then-is_unordered
unfolding goes_on
returns-then-is_unordered c =
    let j = c.if-kind-le6 in
    elim j.branch [
      | access w ↦
          let e = sym (w.is_unordered.ensures ∙ ap says_unordered w.relate.ensures) ∙ sym w.value-is ∙ c.if-is_unordered.true in
          rw (le-leb _ 6 w.if-kind-le6.true, e) (c.is_before.ensures ∙ ap says_before c.relate-then-is_unordered.ensures)
      | send w ↦ let e : true ≡ false = sym c.if-is_unordered.true ∙ w.value-is ∙ lt-leb _ 6 w.if-kind-le6.false in cc
    ]

pub returns-else-is_unordered : goal.returns-else-is_unordered
unfolding goes_on
returns-else-is_unordered c = elim c.if-kind-le6.branch [
  | access w ↦
      let e = sym (w.is_unordered.ensures ∙ ap says_unordered w.relate.ensures) ∙ sym w.value-is ∙ c.if-is_unordered.false in
      rw (le-leb _ 6 w.if-kind-le6.true, e) c.if-is_unordered.false
  | send w ↦ rw (lt-leb _ 6 w.if-kind-le6.false) c.if-is_unordered.false
]
