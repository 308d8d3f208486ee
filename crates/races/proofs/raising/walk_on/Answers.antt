use native.Mathlib.Omega.{arith}
use mathlib.Core.Path.{◌≡◌}
use Rattle.records.proofs.Decoded.{decoded-length}
use Rattle.races.proofs.GoLaws.{walk_inside, by-records, going_start, going_next, going_end}
use Rattle.races.proofs.raising.walk_on.Goals as goal

pub loop-t-init : goal.loop-t-init
loop-t-init c =
    let pre = c.requires in
    (pre, going_start _ _ _ pre.ahead, omega (arith, pre.inside))

pub overflow_add-i : goal.overflow_add-i
overflow_add-i c =
    let s2 = c in
    let inv = s2.loop-t.invariant in
    let start = s2 in
    record { fits = omega (arith, inv.2, inv.1.to, inv.0.rows.low, decoded-length start.args.layout.recs.now) }

pub more_chains-chains-requires : goal.more_chains-chains-requires
more_chains-chains-requires c =
    let s2 = c in
    omega (arith, s2.loop-t.invariant.0.rows.known, s2.loop-t-test.true)

pub loop-t-preserved : goal.loop-t-preserved
loop-t-preserved c =
    let s3 = c in
    let s5 = s3 in
    let walked = s3.merge_links-i in
    let inv = s5.loop-t.invariant in
    let bound = walk_inside _ _ _ _ _ _ _ _ _ walked.ensures inv.2 in
    (inv.0, going_next _ _ _ inv.1 s5.loop-t-test.true _ _ _ (by-records _ _ _ _ _ _ _ c.more_chains-chains.ensures _ _ _ _ walked.ensures) walked.auto.clocks, omega (arith, bound, inv.1.from))

pub returns : goal.returns
returns c =
    let loop = c.loop-t in
    let z : loop.t ≡ c.args.u = omega (arith, loop.invariant.1.to, c.loop-t-test.false) in
    rw z at (going_end _ _ _ loop.invariant.1 c.loop-t-test.false)
