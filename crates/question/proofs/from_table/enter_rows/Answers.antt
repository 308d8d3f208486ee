use Prim.Native.Nat.{◌<◌}
use native.Mathlib.Omega.{arith}
use Rattle.slices.specs.Slices.{zeros}
use Rattle.slices.proofs.Cleared.{zeros-length}
use Rattle.question.proofs.TableChainLaws.{going_start, going-room, going_next, going-stop, going_end}
use Rattle.question.proofs.from_table.enter_rows.Goals as goal

pub loop-u-init : goal.loop-u-init
loop-u-init c l t = rw c.requires.1 (going_start _ _ _ _ _ c.requires.0 (zeros 1024) (zeros-length 1024) l t)

pub enter_row-requires : goal.enter_row-requires
enter_row-requires c =
    let r = c.requires.0 in
    let (low, few, size) = going-room _ _ _ _ _ _ _ _ (c.loop-u.invariant r.links r.tells) (omega arith) in
    (r.narrow, low, few)

pub returns-then-asked-members : goal.returns-then-asked-members
returns-then-asked-members c l t =
    let less : c.loop-u.u < c.args.events = omega arith in
    going-stop _ _ _ _ _ _ _ _ (c.loop-u.invariant l t) less _ c.enter_row.ensures c.if-asked-members.true

pub loop-u-preserved : goal.loop-u-preserved
loop-u-preserved c l t =
    let less : c.loop-u.u < c.args.events = omega arith in
    going_next _ _ _ _ _ _ _ _ (c.loop-u.invariant l t) less _ c.enter_row.ensures c.if-asked-members.false

pub returns : goal.returns
returns c l t = going_end _ _ _ _ _ _ _ _ (c.loop-u.invariant l t) (omega arith)
