use Rattle.races.specs.loops.Clashes.{conflict, clash}
use Rattle.records.specs.Records.{at}
use Rattle.records.specs.Bytes.{decode}
use mathlib.Core.Bool.{true, false}
use mathlib.Core.Path.{◌≡◌, sym, ap₂, ◌∙◌}
use Rattle.pair.proofs.racing.is_clash.Goals as goal

pub returns-then-is_conflict : goal.returns-then-is_conflict
unfolding clash
returns-then-is_conflict c =
    let k : conflict (at (decode c.args.recs.now) c.args.a) (at (decode c.args.recs.now) c.args.b) ≡ true = sym (ap₂ conflict c.record_at.ensures c.record_at-2.ensures) ∙ (sym c.is_conflict.ensures ∙ c.if-is_conflict.true) in
    c.ne.ensures ∙ simp (k, c.event_at.ensures, c.event_at-then-is_conflict.ensures)

pub returns-else-is_conflict : goal.returns-else-is_conflict
unfolding clash
returns-else-is_conflict c =
    let k : conflict (at (decode c.args.recs.now) c.args.a) (at (decode c.args.recs.now) c.args.b) ≡ false = sym (ap₂ conflict c.record_at.ensures c.record_at-2.ensures) ∙ (sym c.is_conflict.ensures ∙ c.if-is_conflict.false) in
    rw k c.if-is_conflict.false
