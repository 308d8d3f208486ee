use mathlib.Core.Path.{sym, ◌∙◌}
use native.Mathlib.Omega.{arith}
use Rattle.compactor.proofs.KeepLaws.{keeps-other, keeps-read, keeps-write}
use Rattle.compactor.proofs.keeping.keeps.Goals as goal

pub returns-then-kind-lt5 : goal.returns-then-kind-lt5
returns-then-kind-lt5 c =
    let start = c in
    let k = c.kind_at-kind.ensures in
    keeps-other start.requires.0 start.requires.1 (λ e. omega (arith, k, e, c.if-kind-lt5.true)) (λ e. omega (arith, k, e, c.if-kind-lt5.true))

pub returns-then-kind-eq5 : goal.returns-then-kind-eq5
returns-then-kind-eq5 c =
    let at-if = c in
    let at-event = c in
    let at-kind = at-event in
    let start = at-kind in
    keeps-read start.requires.0 start.requires.1 _ _ at-event.cell_at-c.ensures at-event.event_at-e.ensures
    (sym at-kind.kind_at-kind.ensures ∙ at-if.if-kind-eq5.true) c.stamp.ensures

pub returns-then-kind-gt6 : goal.returns-then-kind-gt6
returns-then-kind-gt6 c =
    let at-kind = c in
    let start = at-kind in
    let k = at-kind.kind_at-kind.ensures in
    keeps-other start.requires.0 start.requires.1 (λ e. omega (arith, k, e, c.if-kind-gt6.true)) (λ e. omega (arith, k, e, c.if-kind-gt6.true))

pub returns : goal.returns
returns c =
    let at-if3 = c in
    let at-if2 = at-if3 in
    let at-event = at-if2 in
    let at-if1 = at-event in
    let at-kind = at-if1 in
    let start = at-kind in
    keeps-write start.requires.0 start.requires.1 _ _ at-event.cell_at-c.ensures at-event.event_at-e.ensures
    (omega (arith, at-kind.kind_at-kind.ensures, at-if1.if-kind-lt5.false, at-if2.if-kind-eq5.false, at-if3.if-kind-gt6.false)) c.stamp-2.ensures
