use Prim.Native.Nat.{◌+◌}
use mathlib.Core.Path.{ap, ◌∙◌}
use mathlib.Core.Bool.{◌&&◌}
use lib.Dec.{eqb}
use Rattle.records.specs.Bytes.{decode}
use Rattle.links.specs.Begin.{begin_blocked}
use Rattle.trace.proofs.Behind.{judge-last}
use Rattle.recorder.specs.Recording.{before, judged}
use Rattle.recorder.proofs.LinksLast.{linked}
use Rattle.recorder.proofs.look.check.Goals as goal

pub returns : goal.returns
unfolding judged before
returns c =
    let a = c.args in
    let stuck = begin_blocked (decode c.records_from-recs.result.now) a.rec.first in
    c.with_links.ensures
    ∙ ap (linked (a.n + 1) (eqb a.rec.kind 1 && stuck)) c.check-checked.ensures
    ∙ judge-last a.r.situation a.r.owner.0 a.rec _ _ _ stuck (a.n + 1) _
    ∙ simp (c.history.ensures, c.records_from-recs.ensures)
