use mathlib.Core.Bool.{not}
use Rattle.races.proofs.CandidateLaws.{other-quiet}
use Rattle.races.proofs.ListLaws.{race-rows, race-told}
use Rattle.clocks.specs.WayRound.{says_unordered}
use Rattle.records.specs.Bytes.{decode}
use lib.Dec.{T}
use native.Mathlib.Omega.{arith}
use mathlib.Core.Path.{refl, sym, ap, ◌∙◌, subst}
use borrow.Author.Tests.{ne_eqb}
use Rattle.races.proofs.lists.list_race.Goals as goal
use Rattle.races.proofs.lists.list_race.Goals.{then-this-ne0, else-this-ne0}

pub returns-then-kind_at-gt6 : goal.returns-then-kind_at-gt6
returns-then-kind_at-gt6 g c =
    let start = c in
    let e = other-quiet (decode start.args.filled.layout.recs.now) start.args.a start.args.b (omega (arith, c.kind_at.ensures, c.if-kind_at-gt6.true)) in
    record { next = rw e refl; list_is = rw e refl }

pub relation-requires : goal.relation-requires
relation-requires g c =
    let start = c in
    (race-rows start.requires.one_room c.row_at-t.result c.row_at-t.ensures, start.requires.own_is)

pub returns-then-not-is_unordered : goal.returns-then-not-is_unordered
returns-then-not-is_unordered g c =
    let q = c in
    let s = q in
    let i = s in
    let start = i in
    let e = race-told start.requires.one_room s.row_at-t.result s.row_at-t.ensures (omega (arith, i.kind_at.ensures, i.if-kind_at-gt6.false)) q.is_unordered.result (q.is_unordered.ensures ∙ ap says_unordered q.relation.ensures) ∙ c.if-not-is_unordered.true in
    record { next = rw e refl; list_is = rw e refl }

pub put_entry-requires : goal.put_entry-requires
put_entry-requires g c =
    let q = c in
    let s = q in
    let i = s in
    let start = i in
    let e = race-told start.requires.one_room s.row_at-t.result s.row_at-t.ensures (omega (arith, i.kind_at.ensures, i.if-kind_at-gt6.false)) q.is_unordered.result (q.is_unordered.ensures ∙ ap says_unordered q.relation.ensures) ∙ c.if-not-is_unordered.false in
    (start.requires.one_room.earlier, omega (arith, start.requires.one_room.second.inside, start.requires.one_room.second.filled.acceptable.few), start.requires.one_room.space (subst T (sym (ap not (ne_eqb _ _ c.if-this-ne0.true))) tt) e)

pub overflow_add-result : goal.overflow_add-result
overflow_add-result g c =
    let start = c in
    omega (arith, start.requires.one_room.few, start.requires.one_room.earlier, start.requires.one_room.second.inside, start.requires.one_room.second.filled.acceptable.few)

pub returns : goal.returns
returns g c =
    let q = c in
    let s = q in
    let i = s in
    let start = i in
    let e = race-told start.requires.one_room s.row_at-t.result s.row_at-t.ensures (omega (arith, i.kind_at.ensures, i.if-kind_at-gt6.false)) q.is_unordered.result (q.is_unordered.ensures ∙ ap says_unordered q.relation.ensures) ∙ c.if-not-is_unordered.false in
    record {
      next = rw e refl;
      list_is = elim c.if-this-ne0.branch [
        | then-this-ne0 w ↦ w.list-is ∙ rw (e, ne_eqb _ _ w.if-this-ne0.true) w.put_entry.ensures
        | else-this-ne0 w ↦ w.list-is ∙ rw (e, w.if-this-ne0.false) refl
      ];
    }
