use Rattle.ranks.specs.Ranks.{ranks_upto}
use Rattle.records.specs.Bytes.{decode}
use mathlib.Core.Path.{◌≡◌, refl, ap, ◌∙◌}
use native.Mathlib.Omega.{arith}
use Rattle.ranks.proofs.note_last.Goals as goal

pub loop-i-init : goal.loop-i-init
loop-i-init c = let p = c.requires in (p.0, p.1, refl, p.3)

pub note_record-found-requires : goal.note_record-found-requires
note_record-found-requires c = (omega arith, c.loop-i.invariant.3)

pub loop-i-preserved : goal.loop-i-preserved
loop-i-preserved c =
    let at-loop = c in
    let l = at-loop.loop-i in
    let q = c.note_record-found in
    (omega (arith, q.ensures.1), omega arith, q.auto.ranks ∙ l.invariant.2, q.ensures.0)

pub shape_of-ranks : goal.shape_of-ranks
shape_of-ranks c = c.loop-i.invariant.2

pub returns : goal.returns
returns c =
    let start = c in
    let l = c.loop-i in
    let e : l.i ≡ start.args.n = omega arith in
    l.invariant.3.ranks_are ∙ ap (ranks_upto (decode start.args.recs.now)) e
