use native.Mathlib.Omega.{arith}
use mathlib.Core.Path.{◌≡◌, refl}
use Rattle.records.proofs.Decoded.{decoded-length}
use Rattle.records.proofs.SearchLaws.{past-none, past-on, next-on, far, between_none, found-next}
use Rattle.records.proofs.search.next_access.Goals as goal

pub returns-then-count-to : goal.returns-then-count-to
returns-then-count-to c = far _ _ _ (omega (arith, c.if-count-to.true, c.count.ensures)) refl

pub returns-then-to-from : goal.returns-then-to-from
returns-then-to-from c = between_none _ _ _ (omega (arith, c.if-count-to.false, c.count.ensures)) c.if-to-from.true refl

pub loop-i-init : goal.loop-i-init
loop-i-init c = (c.if-to-from.false, omega (arith, c.if-count-to.false, c.count.ensures), c.if-to-from.false, past-none _ _ _ _)

pub overflow_add-i : goal.overflow_add-i
overflow_add-i c = let s = c in omega (arith, c.loop-i.invariant.1, c.loop-i.invariant.2, decoded-length s.args.recs.now)

pub among_four-k-requires : goal.among_four-k-requires
among_four-k-requires c = omega (arith, c.loop-i.invariant.1, c.loop-i.invariant.2)

pub overflow_add-result : goal.overflow_add-result
overflow_add-result c = let l = c.loop-i in omega (arith, l.invariant.1, l.invariant.2, c.if-k-lt4.true, c.loop-i-test.true)

pub returns-then-k-lt4 : goal.returns-then-k-lt4
returns-then-k-lt4 c =
    let i = c.loop-i.invariant in
    found-next _ _ _ i.0 i.1 (next-on _ _ _ i.3 c.among_four-k.ensures c.loop-i-test.true (λ e. absurd (omega (arith, e, c.if-k-lt4.true))))

pub overflow_add-i-in-loop-i : goal.overflow_add-i-in-loop-i
overflow_add-i-in-loop-i c = omega (arith, c.loop-i-test.true)

pub loop-i-smaller : goal.loop-i-smaller
loop-i-smaller c = omega (arith, c.loop-i-test.true)

pub loop-i-preserved : goal.loop-i-preserved
loop-i-preserved c =
    let i = c.loop-i.invariant in
    let e : c.among_four-k.result ≡ 4 = omega (arith, c.among_four-k.ensures.high, c.if-k-lt4.false) in
    (i.0, i.1, c.loop-i-test.true, past-on _ _ _ i.3 (rw e at c.among_four-k.ensures.past))

pub next_near-requires : goal.next_near-requires
next_near-requires c = (c.loop-i.invariant.2, c.loop-i.invariant.1)

pub returns : goal.returns
returns c =
    let i = c.loop-i.invariant in
    found-next _ _ _ i.0 i.1 (next-on _ _ _ i.3 c.next_near.ensures (omega arith) (λ e. refl))
