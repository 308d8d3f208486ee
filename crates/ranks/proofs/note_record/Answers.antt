use Rattle.ranks.proofs.RankLaws.{ranks-more}
use Rattle.records.proofs.Records.{past_more}
use Rattle.records.specs.Records.{begins}
use Rattle.records.specs.Bytes.{decode}
use lib.Dec.{eqb}
use mathlib.Core.Bool.{cond, Bool, true, false}
use mathlib.Core.Path.{◌∙◌}
use Prim.Native.Nat.{ℕ, ◌+◌, ◌≤◌}
use native.Mathlib.Omega.{arith}
use Rattle.ranks.proofs.note_record.Goals as goal

one_more : (b : Bool) (x : ℕ) → cond b (x + 1) x ≤ x + 1
one_more true x = omega arith
one_more false x = omega arith

pub returns : goal.returns
unfolding begins
returns c =
    let at-event-at = c in
    let at-kind-at = at-event-at in
    let start = c in
    let a = start.args in
    let tr = decode a.recs.now in
    let p = start.requires.1 in
    let k = at-kind-at.kind_at-kind.ensures in
    let f = at-event-at.event_at-e.ensures in
    let n = c.note_rank in (
      record {
        ranks_are = n.ensures.1 ∙ simp (k, f, p.ranks_are, p.begins_are, ranks-more tr a.i);
        begins_are = n.ensures.0 ∙ simp (k, p.begins_are, past_more tr a.i);
      },
      omega (arith, n.ensures.0, one_more (eqb at-kind-at.kind_at-kind.result 1) a.found),
    )
