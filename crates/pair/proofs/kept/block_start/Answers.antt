use Rattle.std.proofs.Common.{rules, tests}
use Rattle.pair.proofs.RecordRows.{one-start, one_more, one-parted, one-first}
use Rattle.records.specs.Bytes.{decode}
use native.Mathlib.Omega.{arith}
use Prim.Native.Nat.{◌+◌, ◌-◌}
use mathlib.Core.Path.{◌≡◌, sym, ◌∙◌}
use Rattle.pair.proofs.kept.block_start.Goals as goal

pub loop-before-init : goal.loop-before-init
loop-before-init c = one-start (decode c.args.recs.now) c.args.i

pub returns-then-ne : goal.returns-then-ne
returns-then-ne c =
    let at-loop-test = c in
    let at-loop = c in
    let at-event-at = at-loop in
    let start = at-event-at in
    let n : c.event_at.result.0 ≡ c.event_at-e.result.0 → ⊥ = search (rules, tests) in
    let e : at-loop.loop-before.before - 1 + 1 ≡ at-loop.loop-before.before = omega (arith, at-loop-test.loop-before-test.true) in
    rw e (one-parted (decode start.args.recs.now) start.args.i at-loop.loop-before.before at-loop-test.loop-before-test.true (λ z. n (c.event_at.ensures ∙ z ∙ sym at-event-at.event_at-e.ensures)) at-loop.loop-before.invariant)

pub loop-before-preserved : goal.loop-before-preserved
loop-before-preserved c =
    let at-loop-test = c in
    let at-loop = c in
    let at-event-at = at-loop in
    let start = at-event-at in
    let n : c.event_at.result.0 ≡ c.event_at-e.result.0 = search (rules, tests) in
    one_more (decode start.args.recs.now) start.args.i at-loop.loop-before.before at-loop-test.loop-before-test.true (sym c.event_at.ensures ∙ n ∙ at-event-at.event_at-e.ensures) at-loop.loop-before.invariant

pub returns : goal.returns
returns c =
    let start = c in
    let e : c.loop-before.before ≡ 0 = omega (arith, c.loop-before-test.false) in
    rw e at (one-first (decode start.args.recs.now) start.args.i c.loop-before.before c.loop-before-test.false c.loop-before.invariant)
