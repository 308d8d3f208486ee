use Rattle.std.proofs.Common.{rules}
use native.Mathlib.Omega.{arith}
use Rattle.pair.proofs.MergeLaws.{merging_start, merging-next, merging-end}
use Rattle.pair.proofs.kept.merge_part.Goals as goal

pub loop-c-init : goal.loop-c-init
loop-c-init c = (omega arith, merging_start _ _)

pub loop-c-preserved : goal.loop-c-preserved
loop-c-preserved c =
    let at-loop = c in
    let l = at-loop.loop-c in (omega arith, merging-next _ _ l.c l.row l.invariant.1 (omega arith) _ (search rules))

pub returns : goal.returns
returns c = let l = c.loop-c in merging-end _ _ l.c _ l.row c.loop-c-test.false l.invariant.1
