use Rattle.question.specs.loops.ChainPass.{said_by}
use Rattle.question.specs.loops.Marking.{marks_down_in}
use Rattle.records.specs.Bytes.{decode}
use lib.ListN.{length}
use mathlib.Core.Path.{◌≡◌}
use Rattle.question.proofs.chains.mark_before.Given as goal

abbrev pub invariant-loop-j : goal.invariant-loop-j
invariant-loop-j l = (marks_down_in (said_by l.ranks (decode l.recs)) l.j l.marks ≡ marks_down_in (said_by l.ranks (decode l.recs)) l.i l.initial.marks) × (length l.marks ≡ length l.initial.marks)
