use Prim.Native.Nat.{◌<◌}
use mathlib.Core.Path.{refl, sym, ◌∙◌}
use native.Mathlib.Omega.{arith}
use lib.ListN.{length}
use Rattle.records.specs.Bytes.{decode}
use Rattle.trace.proofs.Faults.{by_place, by_order}
use Rattle.trace.proofs.Going.{going_start, going_end, all_passed, all-sent, going-refused, going-stopped, going_next, going-along, accesses-on}
use Rattle.trace.proofs.Reasons.{numbered}
use Rattle.trace.proofs.scan.scan.Goals as goal

pub loop-i-init : goal.loop-i-init
loop-i-init c =
    let start = c in
    let a = start.args in
    rw c.zeros-status.ensures (going_start (decode a.recs.now) a.start a.events)

pub returns-in-Err : goal.returns-in-Err
returns-in-Err c =
    let g = c.loop-i.invariant in
    let r = c.record_at-r in
    let n = c.count-records.ensures in
    let less : c.loop-i.i < length (decode c.args.recs.now) = omega arith in
    let not-zero = numbered c.in-Err.misplaced in
    let f = by_place _ _ _ _ _ _ c.in-Err.ensures not-zero in
    rw c.at.ensures (record {
      reply = going-refused g less r.result r.ensures _ f not-zero;
      from = refl;
      passes = going-stopped g less r.result r.ensures _ f not-zero;
      sent = g.sent;
    })

pub returns-in-Err-admit : goal.returns-in-Err-admit
returns-in-Err-admit c =
    let g = c.loop-i.invariant in
    let r = c.record_at-r in
    let n = c.count-records.ensures in
    let less : c.loop-i.i < length (decode c.args.recs.now) = omega arith in
    let not-zero = numbered c.in-Err-admit.reason in
    let f = by_order _ _ _ _ _ _ c.in_default.ensures refl c.in-Err-admit.ensures.0 in
    rw c.at-in-Err-admit.ensures (record {
      reply = going-refused g less r.result r.ensures _ f not-zero;
      from = refl;
      passes = going-stopped g less r.result r.ensures _ f not-zero;
      sent = g.sent;
    })

pub one_more-found-requires : goal.one_more-found-requires
one_more-found-requires c =
    let at_before = c in
    let l = at_before in
    let p = l.requires in
    let n = l.count-records.ensures in
    let f = l.loop-i.invariant.few in
    omega arith

pub loop-i-smaller : goal.loop-i-smaller
loop-i-smaller c =
    let on = accesses-on c.pass_accesses-i.ensures in
    omega arith

pub loop-i-preserved : goal.loop-i-preserved
loop-i-preserved c =
    let g = c.loop-i.invariant in
    let r = c.record_at-r in
    let a = c.in_default-admit.ensures in
    let n = c.count-records.ensures in
    let less : c.loop-i.i < length (decode c.args.recs.now) = omega arith in
    let o = c.one_more-found in
    let w = c.or_send-sends in
    let x = c.next-next in
    going-along c.pass_accesses-i.ensures (rw (a.1 refl)
    (going_next g less r.result r.ensures _ (by_order _ _ _ _ _ _ c.in_default.ensures refl a.0) refl x.result x.ensures o.result o.ensures w.result w.ensures))

pub finish-requires : goal.finish-requires
finish-requires c =
    let at_count = c in
    let start = at_count in
    let p = start.requires in
    let n = at_count.count-records.ensures in
    omega arith

pub returns : goal.returns
returns c =
    let at-loop = c in
    let at_count = at-loop in
    let g = at-loop.loop-i.invariant in
    let n = at_count.count-records.ensures in
    let k = at-loop.loop-i-test.false in
    record {
      reply = c.finish.ensures ∙ sym (going_end g n k);
      from = refl;
      passes = all_passed g n k;
      sent = all-sent g n k;
    }
