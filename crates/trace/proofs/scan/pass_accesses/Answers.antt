use Prim.Native.Nat.{◌<◌}
use mathlib.Core.Path.{◌≡◌}
use native.Mathlib.Omega.{arith}
use lib.ListN.{length}
use Rattle.records.specs.Bytes.{decode}
use Rattle.trace.specs.loops.Inner.{none, more}
use Rattle.trace.proofs.scan.pass_accesses.Goals as goal

pub returns-then-now_in-ne2 : goal.returns-then-now_in-ne2
returns-then-now_in-ne2 c = none

pub loop-i-init : goal.loop-i-init
loop-i-init c = (none, omega arith)

pub returns-then-not-is_inner_access : goal.returns-then-not-is_inner_access
returns-then-not-is_inner_access c = c.loop-i.invariant.0

pub loop-i-preserved : goal.loop-i-preserved
loop-i-preserved c =
    let l = c in
    let n = l.count-n.ensures in
    let less : l.loop-i.i < length (decode l.args.recs.now) = omega arith in
    let r = c.record_at in
    (more l.loop-i.invariant.0 l.if-now_in-ne2.false less (rw r.ensures at (c.is_inner_access.ensures (c.if-not-is_inner_access.false))), omega arith)

pub returns : goal.returns
returns c =
    let low = c.loop-i.auto.i in
    let high = c.loop-i.invariant.1 in
    let e : c.max.result ≡ c.loop-i.i = omega arith in
    rw e c.loop-i.invariant.0
