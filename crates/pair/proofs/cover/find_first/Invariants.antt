use Prim.Native.Nat.{◌-◌, ◌<◌}
use lib.ListN.{length}
use Rattle.records.specs.Bytes.{decode}
use Rattle.pair.proofs.CoverLaws.{Along}
use Rattle.pair.proofs.RankedClocks.{ranked_clocks}
use Rattle.pair.proofs.cover.find_first.Given as goal

abbrev pub invariant-loop-c : goal.invariant-loop-c
invariant-loop-c l = (i : l.d < length (decode l.ranked.filled.recs.now)) → Along (ranked_clocks l.ranked) l.lo l.t l.d i l.work l.u l.x.0 l.least l.c

abbrev pub decreases-loop-c : goal.decreases-loop-c
decreases-loop-c l = l.d - l.c
