use borrow.Author.Tests.{not-true}
use mathlib.Core.Path.{ap, ◌∙◌}
use mathlib.Core.List.{List}
use Prim.Native.Nat.{ℕ}
use Rattle.records.specs.Bytes.{decode}
use Rattle.links.specs.Fill.{fill_all}
use Rattle.trace.specs.Plain.{passed_in, earlier}
use Rattle.trace.proofs.read.Goals as goal

pub returns-then-not-first : goal.returns-then-not-first
returns-then-not-first c =
    let first = c.read_plain-first in
    first.ensures.enough (not-true _ c.if-not-first.true)

pub earlier_of-requires : goal.earlier_of-requires
earlier_of-requires c = c.read_plain-first.ensures.few

pub returns : goal.returns
unfolding passed_in
returns c =
    let at_front = c in
    let first = at_front.read_plain-first in
    c.earlier_of.ensures
    ∙ ap (earlier first.result) (c.first_blocked.ensures ∙ ap (λ (l : List ℕ). (fill_all (decode l)).stop) at_front.records_from-passed.ensures)
    ∙ first.ensures.decided
