use mathlib.Core.Path.{◌≡◌, ap, ◌∙◌}
use mathlib.Core.Bool.{Bool, ◌&&◌, ◌||◌}
use borrow.Author.Tests.{eq-eqb, ne_eqb}
use lib.Dec.{eqb, leb}
use lib.ListN.{length}
use Rattle.records.specs.Bytes.{decode}
use Rattle.records.specs.Records.{past, has, begun, ended}
use Rattle.trace.specs.Rule.{judge}
use Rattle.recorder.specs.Recording.{of_kind}
use Rattle.recorder.proofs.Looking.{judge-asked}
use Rattle.recorder.proofs.look.history.Goals as goal
use Rattle.recorder.proofs.look.history.Goals.{then-starts, else-starts, then-forks, else-forks}

pub returns-then-rec-eq4 : goal.returns-then-rec-eq4
unfolding begun ended
returns-then-rec-eq4 c =
    let r = c.args.rec in
    let p = past (decode c.args.recs.now) (length (decode c.args.recs.now)) in
    let first : c.if-starts.result ≡ ((eqb r.kind 1 || eqb r.kind 4) && has (of_kind 1) r.first p) =
    elim c.if-starts.branch [
      | then-starts w ↦ w.result-is ∙ w.seen.ensures ∙ simp (← c.starts.ensures, w.if-starts.true)
      | else-starts w ↦ simp (w.result-is, ← c.starts.ensures, w.if-starts.false)
    ] in
    let second : c.if-forks.result ≡ ((eqb r.kind 3 || (leb 16 r.kind && leb r.kind 19)) && has (of_kind 1) r.second p) =
    elim c.if-forks.branch [
      | then-forks w ↦ w.result-is ∙ w.seen-then-forks.ensures ∙ simp (← c.forks.ensures, w.if-forks.true)
      | else-forks w ↦ simp (w.result-is, ← c.forks.ensures, w.if-forks.false)
    ] in
    let last : c.seen-then-rec-eq4.result ≡ (eqb r.kind 4 && has (of_kind 2) r.second p) =
    simp (eq-eqb _ _ c.if-rec-eq4.true) c.seen-then-rec-eq4.ensures in
    λ s e x. rw (first, second, last) (judge-asked s e r _ _ _ x)

pub returns-else-rec-eq4 : goal.returns-else-rec-eq4
unfolding begun ended
returns-else-rec-eq4 c =
    let r = c.args.rec in
    let p = past (decode c.args.recs.now) (length (decode c.args.recs.now)) in
    let first : c.if-starts.result ≡ ((eqb r.kind 1 || eqb r.kind 4) && has (of_kind 1) r.first p) =
    elim c.if-starts.branch [
      | then-starts w ↦ w.result-is ∙ w.seen.ensures ∙ simp (← c.starts.ensures, w.if-starts.true)
      | else-starts w ↦ simp (w.result-is, ← c.starts.ensures, w.if-starts.false)
    ] in
    let second : c.if-forks.result ≡ ((eqb r.kind 3 || (leb 16 r.kind && leb r.kind 19)) && has (of_kind 1) r.second p) =
    elim c.if-forks.branch [
      | then-forks w ↦ w.result-is ∙ w.seen-then-forks.ensures ∙ simp (← c.forks.ensures, w.if-forks.true)
      | else-forks w ↦ simp (w.result-is, ← c.forks.ensures, w.if-forks.false)
    ] in
    let last : eqb r.kind 4 ≡ (eqb r.kind 4 && has (of_kind 2) r.second p) = simp (ne_eqb _ _ c.if-rec-eq4.false) in
    λ s e x. rw (first, second) (ap (λ (y : Bool). judge s e r ((eqb r.kind 1 || eqb r.kind 4) && has (of_kind 1) r.first p)
    ((eqb r.kind 3 || (leb 16 r.kind && leb r.kind 19)) && has (of_kind 1) r.second p) y x) last ∙ judge-asked s e r _ _ _ x)
