use native.Mathlib.Omega.{arith}
use Rattle.listing.specs.Lines.{ascii}
use Rattle.listing.proofs.Text.{header-text, header-length}
use Rattle.listing.proofs.Store.{both, printed, no-space}
use Rattle.listing.proofs.put_header.Goals as goal

pub returns-then-room-header_width : goal.returns-then-room-header_width
returns-then-room-header_width c = no-space _ _ _ (rw header-length (omega arith))

pub returns : goal.returns
unfolding ascii
returns c =
    let fourth = c in
    let third = fourth in
    let second = third in
    let first = second in
    printed _
    (header-text _ _ _ _)
    (both first.put_named-at_records.ensures (both second.put_named-at_chains.ensures (both third.put_named-at_pairs.ensures fourth.put_named.ensures)))
    (omega (arith, first))
