use Rattle.ranks.proofs.RankLaws.{ranks-same}
use native.Mathlib.Omega.{arith}
use Rattle.ranks.proofs.note_four.Goals as goal

pub note_record-one-requires : goal.note_record-one-requires
note_record-one-requires c = (omega arith, c.requires.2)

pub note_record-two-requires : goal.note_record-two-requires
note_record-two-requires c = (omega (arith, c.note_record-one.ensures.1), c.note_record-one.ensures.0)

pub note_record-three-requires : goal.note_record-three-requires
note_record-three-requires c =
    let at-note-record = c in
    let q = c.note_record-two.ensures in
    (omega (arith, q.1, at-note-record.note_record-one.ensures.1), ranks-same _ (omega arith) q.0)

pub note_record-requires : goal.note_record-requires
note_record-requires c =
    let at-note-record = c in
    let at-note-record2 = at-note-record in
    let q = c.note_record-three.ensures in
    (omega (arith, q.1, at-note-record.note_record-two.ensures.1, at-note-record2.note_record-one.ensures.1), ranks-same _ (omega arith) q.0)

pub returns : goal.returns
returns c =
    let at-note-record = c in
    let at-note-record2 = at-note-record in
    let at-note-record3 = at-note-record2 in
    let q = c.note_record.ensures in
    (ranks-same _ (omega arith) q.0, omega (arith, q.1, at-note-record.note_record-three.ensures.1, at-note-record2.note_record-two.ensures.1, at-note-record3.note_record-one.ensures.1))
