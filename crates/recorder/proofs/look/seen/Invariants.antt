use Rattle.recorder.specs.Recording.{of_kind}
use Rattle.records.specs.Records.{past, has}
use Rattle.records.specs.Bytes.{decode}
use lib.ListN.{length}
use mathlib.Core.Path.{◌≡◌}
use Rattle.recorder.proofs.look.seen.Given as goal

abbrev pub invariant-loop-i : goal.invariant-loop-i
invariant-loop-i l = has (of_kind l.kind) l.e.0 (past (decode l.recs) (length (decode l.recs))) ≡ has (of_kind l.kind) l.e.0 (past (decode l.recs) l.i)
