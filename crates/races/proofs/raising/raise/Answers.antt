use native.Mathlib.Omega.{arith}
use mathlib.Core.Path.{sym, ◌∙◌}
use Prim.Native.Nat.{◌-◌}
use Rattle.races.proofs.RaiseLaws.{raise-over, raise-reads, raise-writes}
use Rattle.races.proofs.raising.raise.Goals as goal

pub raise_by-requires : goal.raise_by-requires
raise_by-requires c =
    let start = c in
    let pre = start.requires in let loop = c.loop-j in let loop-test = c.loop-j-test in (omega (arith, pre.1, loop.invariant.1, loop-test.true), pre.2, pre.3 (loop.j - 1) (omega (arith, loop-test.true)) (omega (arith, loop.invariant.1, loop-test.true)))

pub returns-then-list-j-ne3 : goal.returns-then-list-j-ne3
returns-then-list-j-ne3 c =
    let at-raise-by = c in
    let at-loop-test = at-raise-by in
    let at-loop = at-loop-test in
    let loop-test = at-loop-test.loop-j-test in let raise-by = at-raise-by.raise_by in let if1 = c.if-list-j-ne3 in let loop = at-loop.loop-j in raise-writes _ _ _ _ _ _ _ _ loop-test.true _ _ raise-by.ensures if1.true ∙ loop.invariant.3

pub loop-j-preserved : goal.loop-j-preserved
loop-j-preserved c =
    let at-raise-by = c in
    let at-loop-test = at-raise-by in
    let at-loop = at-loop-test in
    let loop-test = at-loop-test.loop-j-test in let loop = at-loop.loop-j in let raise-by = at-raise-by.raise_by in let if1 = c.if-list-j-ne3 in (omega (arith, loop-test.true), omega (arith, loop.invariant.1), raise-by.auto.clocks ∙ loop.invariant.2, raise-reads _ _ _ _ _ _ _ _ loop-test.true _ _ raise-by.ensures if1.false ∙ loop.invariant.3)

pub returns : goal.returns
returns c = let loop-test = c.loop-j-test in let loop = c.loop-j in sym (raise-over _ _ _ _ _ _ _ _ _ loop-test.false) ∙ loop.invariant.3
