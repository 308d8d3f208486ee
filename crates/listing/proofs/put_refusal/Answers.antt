use native.Mathlib.Omega.{arith}
use Rattle.listing.specs.Lines.{ascii}
use Rattle.listing.proofs.Text.{refused-text, refused-length}
use Rattle.listing.proofs.Store.{both, printed, no-space}
use Rattle.listing.proofs.put_refusal.Goals as goal

pub returns-then-room-len : goal.returns-then-room-len
returns-then-room-len c = no-space _ _ _ (rw refused-length (omega arith))

pub returns : goal.returns
unfolding ascii
returns c =
    let place = c in
    let number = place in
    printed _ (refused-text _ _) (both number.put_named-at_place.ensures place.put_number.ensures) (omega arith)
