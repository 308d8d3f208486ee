use mathlib.Core.Path.{◌≡◌}
use Prim.Native.Nat.{◌≤◌}
use lib.ListN.{length}
use Rattle.races.specs.loops.Leading.{lead_down, MayLead}
use Rattle.races.proofs.leading.lead_down.Given as goal

abbrev pub invariant-loop-p : goal.invariant-loop-p
invariant-loop-p l =
    (l.p ≤ l.t) × MayLead l.chosen l.width l.initial.clocks l.t × (1024 ≤ length l.kept) × (length l.clocks ≡ length l.initial.clocks)
    × (lead_down l.chosen l.width l.kept l.t l.chains l.p l.clocks ≡ lead_down l.chosen l.width l.kept l.t l.chains l.t l.initial.clocks)
