use Rattle.question.proofs.MemberLaws.{Going}
use Rattle.records.specs.Bytes.{decode}
use lib.ListN.{length}
use mathlib.Core.Path.{◌≡◌}
use Rattle.question.proofs.chains.chain_pass.Given as goal

abbrev pub invariant-loop-i : goal.invariant-loop-i
invariant-loop-i l = Going (decode l.recs) l.asked.first l.asked.second l.asked.width l.ranks l.members l.i × (length l.marks ≡ 1024)
