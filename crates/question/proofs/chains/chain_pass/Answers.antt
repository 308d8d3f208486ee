use Rattle.question.proofs.MemberLaws.{going_start, going-room, going_next, going-stop, going_end}
use Rattle.slices.specs.Slices.{zeros}
use Rattle.slices.proofs.Cleared.{zeros-length}
use Rattle.records.specs.Bytes.{decode}
use lib.ListN.{length}
use native.Mathlib.Omega.{arith}
use mathlib.Core.Path.{sym, ap, ◌∙◌}
use Prim.Native.Nat.{◌≤◌, ◌<◌}
use Rattle.question.proofs.chains.chain_pass.Goals as goal

pub loop-i-init : goal.loop-i-init
loop-i-init c = (rw c.none-members.ensures (going_start _ _ _ _ _ (zeros 1024) (zeros-length 1024) c.requires.0 c.requires.1), ap length c.zeros-marks.ensures ∙ zeros-length 1024)

pub slice_bounds-turn-end : goal.slice_bounds-turn-end
slice_bounds-turn-end c = sym c.loop-i.invariant.1

pub turn-requires : goal.turn-requires
turn-requires c =
    let less : c.loop-i.i < length (decode c.args.recs.now) = omega (arith, c.count-n.ensures) in
    (c.requires.0.narrow, c.loop-i.invariant.1, going-room _ _ _ _ _ c.loop-i.invariant.0 less)

pub returns-then-asked-members : goal.returns-then-asked-members
returns-then-asked-members c =
    let less : c.loop-i.i < length (decode c.args.recs.now) = omega (arith, c.count-n.ensures) in
    going-stop _ _ _ _ _ c.loop-i.invariant.0 less _ c.turn.ensures c.if-asked-members.true

pub loop-i-preserved : goal.loop-i-preserved
loop-i-preserved c =
    let less : c.loop-i.i < length (decode c.args.recs.now) = omega (arith, c.count-n.ensures) in
    (going_next _ _ _ _ _ c.loop-i.invariant.0 less _ c.turn.ensures c.if-asked-members.false, c.turn.auto.marks ∙ c.loop-i.invariant.1)

pub returns : goal.returns
returns c =
    let more : length (decode c.args.recs.now) ≤ c.loop-i.i = omega (arith, c.count-n.ensures) in
    rw c.count-n.ensures (going_end _ _ _ _ _ c.loop-i.invariant.0 more)
