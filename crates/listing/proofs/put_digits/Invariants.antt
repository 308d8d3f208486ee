use Prim.Native.Nat.{◌+◌, ◌<◌}
use mathlib.Core.Path.{◌≡◌}
use lib.ListN.{length}
use lib.Seq.{sets}
use Rattle.listing.specs.Lines.{decimal}
use Rattle.listing.proofs.put_digits.Given as goal

abbrev pub invariant-loop-rest : goal.invariant-loop-rest
invariant-loop-rest l =
    (l.i < l.after) × (l.i + 1 ≡ l.at + length (decimal l.rest)) × (length l.out ≡ length l.initial.out) × (sets l.out l.at (decimal l.rest) ≡ sets l.initial.out l.at (decimal l.n))

abbrev pub decreases-loop-rest : goal.decreases-loop-rest
decreases-loop-rest l = l.rest
