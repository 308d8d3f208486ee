use native.Mathlib.Omega.{arith}
use mathlib.Core.Path.{refl}
use Rattle.races.proofs.SecondLaws.{marking-start, marking-stop, marking-number, marking-rows, marking-next}
use Rattle.races.proofs.raising.mark_second.Goals as goal

pub loop-e-init : goal.loop-e-init
loop-e-init c =
    let start = c in
    let pre = start.requires in (marking-start pre, refl)

pub shape_of-list-then-list-e : goal.shape_of-list-then-list-e
shape_of-list-then-list-e c = let loop = c.loop-e in loop.invariant.0.remarked.size

pub returns-then-list-e : goal.returns-then-list-e
returns-then-list-e c = let loop = c.loop-e in let loop-test = c.loop-e-test in let if1 = c.if-list-e in marking-stop loop.invariant.0 loop-test.true _ loop.invariant.1 if1.true

pub row_of-t-requires : goal.row_of-t-requires
row_of-t-requires c =
    let at-loop = c in
    let start = at-loop in
    let loop = at-loop.loop-e in let loop-test = c.loop-e-test in let pre = start.requires in omega (arith, marking-number loop.invariant.0 loop-test.true _ loop.invariant.1 pre)

pub mark_of-requires : goal.mark_of-requires
mark_of-requires c =
    let at-loop-test = c in
    let at-loop = at-loop-test in
    let start = at-loop in
    let loop = at-loop.loop-e in let loop-test = at-loop-test.loop-e-test in let pre = start.requires in let if1 = c.if-list-e in let row_at = c.row_of-t in marking-rows loop.invariant.0 loop-test.true _ loop.invariant.1 pre if1.false _ row_at.ensures.0

pub loop-e-preserved : goal.loop-e-preserved
loop-e-preserved c =
    let at-loop-test = c in
    let at-loop = at-loop-test in
    let start = at-loop in
    let loop = at-loop.loop-e in let loop-test = at-loop-test.loop-e-test in let pre = start.requires in let if1 = c.if-list-e in let row_at = c.row_of-t in let mark-of = c.mark_of in (marking-next loop.invariant.0 loop-test.true _ loop.invariant.1 pre if1.false _ _ row_at.ensures.0 mark-of.ensures, loop.invariant.1)
