use native.Mathlib.Omega.{arith}
use borrow.Author.Count.{below_more}
use borrow.Author.Tests.{eqb-false}
use Rattle.order.proofs.merge.among_sixteen.Goals as goal
use Rattle.order.proofs.merge.among_sixteen.Goals.{then-clocks-at, else-clocks-at}

pub loop-j-init : goal.loop-j-init
loop-j-init c = (omega arith, omega arith, λ z k h e. omega arith)

pub loop-j-preserved : goal.loop-j-preserved
loop-j-preserved c =
    let at-loop = c in
    let l = at-loop.loop-j in
    elim c.if-clocks-at.branch [ then-clocks-at w ↦ (omega arith, omega arith, λ z k h e. omega arith) | else-clocks-at w ↦ (omega arith, omega (arith, l.invariant.1), λ z. below_more _ _ (l.invariant.2 (omega arith)) w.if-clocks-at.false) ]

pub returns : goal.returns
returns c =
    let l = c.loop-j in
    λ e j h. l.invariant.2 (let n = eqb-false l.hit 1 e in omega (arith, n)) j (omega arith)
