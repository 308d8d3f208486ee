use Rattle.pair.proofs.RecordRows.{One}
use Rattle.records.specs.Bytes.{decode}
use Rattle.pair.proofs.kept.block_start.Given as goal

abbrev pub invariant-loop-before : goal.invariant-loop-before
invariant-loop-before l = One (decode l.recs) l.i l.before
