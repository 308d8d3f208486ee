use mathlib.Core.Path.{◌≡◌, sym, ◌∙◌}
use mathlib.Core.Bool.{true, false, ◌&&◌}
use borrow.Author.Tests.{eq-eqb, ne_eqb}
use lib.Dec.{eqb}
use Rattle.std.proofs.lemmas.Result.{err_from_is_err_and}
use Rattle.records.specs.Bytes.{decode}
use Rattle.links.specs.Begin.{begin_blocked}
use Rattle.trace.specs.Reply.{gives, then}
use Rattle.recorder.proofs.LinksLast.{free_stays, behind-refused}
use Rattle.recorder.proofs.look.with_links.Goals as goal
use Rattle.recorder.proofs.look.with_links.Goals.{else-rec-eq1-via-then-rec-eq1+else-begin_blocked, else-rec-eq1-via-else-rec-eq1}

pub returns-in_err-next : goal.returns-in_err-next
unfolding then
returns-in_err-next c =
    let p = err_from_is_err_and c.from_residual.result c.from_residual.ensures.1 in
    rw (p.1, p.2, c.in_err-next.was)

pub returns-then-begin_blocked : goal.returns-then-begin_blocked
returns-then-begin_blocked c =
    let a = c.args in
    let v : (eqb a.rec.kind 1 && begin_blocked (decode a.recs.now) a.rec.first) ≡ true =
    simp (eq-eqb _ _ c.if-rec-eq1.true) (sym c.begin_blocked.ensures ∙ c.if-begin_blocked.true) in
    rw (c.at.ensures, c.in_ok-next.was) (behind-refused a.op.0 _ _ v)

pub returns : goal.returns
returns c =
    let a = c.args in
    let v : (eqb a.rec.kind 1 && begin_blocked (decode a.recs.now) a.rec.first) ≡ false =
    elim c.else-rec-eq1.branch [
      | else-rec-eq1-via-then-rec-eq1+else-begin_blocked w ↦ simp (eq-eqb _ _ w.if-rec-eq1.true) (sym w.begin_blocked.ensures ∙ w.if-begin_blocked.false)
      | else-rec-eq1-via-else-rec-eq1 w ↦ simp (ne_eqb _ _ w.if-rec-eq1.false)
    ] in
    rw c.in_ok-next.was (free_stays a.op.0 _ (gives _) v)
