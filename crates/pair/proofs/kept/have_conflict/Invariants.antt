use Rattle.records.specs.Bytes.{decode}
use Rattle.pair.proofs.KeptLaws.{NoClash}
use Rattle.pair.proofs.kept.have_conflict.Given as goal

abbrev pub invariant-loop-i : goal.invariant-loop-i
invariant-loop-i l = NoClash (decode l.recs) l.cells l.lo l.i
