use Rattle.recorder.proofs.Looking.{seen_here, other-kind, other-event}
use Rattle.records.specs.Records.{past, has}
use Rattle.records.specs.Bytes.{decode}
use mathlib.Core.Path.{◌≡◌, sym, ◌∙◌}
use mathlib.Core.Bool.{false≢true}
use borrow.Author.Tests.{eq-eqb, eqb-true}
use native.Mathlib.Omega.{arith}
use Rattle.recorder.proofs.look.seen.Goals as goal
use Rattle.recorder.proofs.look.seen.Goals.{else-kind_at-kind-via-then-kind_at-kind+else-eq, else-kind_at-kind-via-else-kind_at-kind}

pub returns-then-eq : goal.returns-then-eq
returns-then-eq c =
    let a = c.args in
    let l = c.loop-i in
    sym (l.invariant ∙ seen_here (decode a.recs.now) a.kind a.e.0 l.i c.loop-i-test.true
    (sym c.kind_at.ensures ∙ c.if-kind_at-kind.true) (sym c.event_at.ensures ∙ eqb-true _ _ (sym c.if-eq.ensures)))

pub loop-i-preserved : goal.loop-i-preserved
loop-i-preserved c =
    let a = c.args in
    let l = c.loop-i in
    elim c.else-kind_at-kind.branch [
      | else-kind_at-kind-via-then-kind_at-kind+else-eq w ↦
          l.invariant ∙ other-event (decode a.recs.now) a.kind a.e.0 l.i c.loop-i-test.true (λ p. false≢true (w.if-eq.ensures ∙ eq-eqb _ _ (w.event_at.ensures ∙ p)))
      | else-kind_at-kind-via-else-kind_at-kind w ↦
          l.invariant ∙ other-kind (decode a.recs.now) a.kind a.e.0 l.i c.loop-i-test.true (λ p. w.if-kind_at-kind.false (c.kind_at.ensures ∙ p))
    ]

pub returns : goal.returns
unfolding has past
returns c =
    let l = c.loop-i in
    let z : l.i ≡ 0 = omega arith in
    sym (l.invariant ∙ simp z)
