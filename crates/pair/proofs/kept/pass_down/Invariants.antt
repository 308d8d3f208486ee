use Prim.Native.Nat.{◌≤◌}
use Rattle.records.specs.Bytes.{decode}
use Rattle.races.specs.loops.FilledClocks.{rows}
use Rattle.pair.specs.loops.Kept.{Split, Passes}
use Rattle.pair.proofs.kept.pass_down.Given as goal

abbrev pub invariant-loop-t : goal.invariant-loop-t
invariant-loop-t l = Passes (decode l.filled.recs.now) l.filled.chosen.now l.filled.width l.filled.chains l.filled.clocks.now l.u l.end l.t l.hi l.initial.work l.initial.row l.initial.cells l.work l.row l.cells × Split (decode l.filled.recs.now) l.t l.hi × (l.t ≤ rows (decode l.filled.recs.now))
