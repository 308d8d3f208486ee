use Prim.Native.Nat.{◌-◌}
use mathlib.Core.Path.{◌≡◌, refl, sym, ◌∙◌}
use native.Mathlib.Omega.{arith}
use Rattle.trials.proofs.DraftLaws.{put-turn, put-over, after-turn, after-over}
use Rattle.trials.proofs.draft.put_times.Goals as goal

pub loop-k-init : goal.loop-k-init
loop-k-init c = let e : c.args.times - 0 ≡ c.args.times = omega arith in rw e (refl, refl)

pub loop-k-preserved : goal.loop-k-preserved
loop-k-preserved c =
    let i = c.loop-k.invariant in
    let w = c.put_record-next.ensures in
    rw (w.stored, w.next) (sym (put-turn _ _ _ _ _ c.loop-k-test.true) ∙ i.0, sym (after-turn _ _ _ c.loop-k-test.true) ∙ i.1)

pub returns-clause-stored : goal.returns-clause-stored
returns-clause-stored c = sym (put-over _ _ _ _ _ c.loop-k-test.false) ∙ c.loop-k.invariant.0

pub returns-clause-next : goal.returns-clause-next
returns-clause-next c = sym (after-over _ _ _ c.loop-k-test.false) ∙ c.loop-k.invariant.1
