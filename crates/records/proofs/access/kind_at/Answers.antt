use Rattle.records.specs.Bytes.{record_at}
use Rattle.records.proofs.Decoded.{decoded, decoded-none}
use Rattle.records.proofs.access.kind_at.Goals as goal

pub returns-then-i-recs : goal.returns-then-i-recs
unfolding record_at
returns-then-i-recs c =
    let a = c.args in
    simp (decoded a.recs.now a.i c.if-i-recs.true)

pub returns-else-i-recs : goal.returns-else-i-recs
returns-else-i-recs c =
    let a = c.args in
    simp (decoded-none a.recs.now a.i c.if-i-recs.false)
