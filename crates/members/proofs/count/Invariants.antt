use Rattle.std.specs.Prelude.{◌≡◌, ◌*◌, ◌≤◌}
use Rattle.members.specs.Members.{ones}
use Rattle.members.proofs.count.Given as goal

abbrev pub invariant-loop-byte : goal.invariant-loop-byte
invariant-loop-byte l = (l.total ≡ ones l.work l.byte-index) × (l.total ≤ 8 * l.byte-index)
