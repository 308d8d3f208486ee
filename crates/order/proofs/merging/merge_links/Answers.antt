use native.Mathlib.Omega.{arith}
use mathlib.Core.Path.{◌≡◌, refl, sym, ◌∙◌}
use Rattle.order.proofs.WalkLaws.{walk-skips, walk-over, walk-stop, walk-next}
use Rattle.order.proofs.merging.merge_links.Goals as goal

pub loop-i-init : goal.loop-i-init
loop-i-init c =
    let n = c.count-n.ensures in
    (n, refl, rw (n, c.skip_accesses-first.ensures) (walk-skips _ _ _ _ _ _), omega arith)

pub shape_of-clocks-then-pass_record : goal.shape_of-clocks-then-pass_record
shape_of-clocks-then-pass_record c =
    let s3 = c in
    s3.pass_record.auto.clocks ∙ s3.loop-i.invariant.1

pub returns-then-pass_record : goal.returns-then-pass_record
returns-then-pass_record c =
    let s3 = c in
    let s5 = s3 in
    let p = s3.pass_record.ensures in
    let l = s5.loop-i in
    rw p.clocks_are (sym l.invariant.2 ∙ walk-stop _ _ _ _ l.i l.clocks s5.loop-i-test.true (sym p.stopped_is ∙ c.if-pass_record.true))

pub loop-i-preserved : goal.loop-i-preserved
loop-i-preserved c =
    let s3 = c in
    let s5 = s3 in
    let p = s3.pass_record.ensures in
    let l = s5.loop-i in (
      l.invariant.0,
      s3.pass_record.auto.clocks ∙ l.invariant.1,
      rw p.clocks_are (sym (walk-next _ _ _ _ l.i l.clocks s5.loop-i-test.true (sym p.stopped_is ∙ c.if-pass_record.false)) ∙ l.invariant.2),
      omega arith,
    )

pub shape_of-clocks : goal.shape_of-clocks
shape_of-clocks c = c.loop-i.invariant.1

pub returns : goal.returns
returns c =
    let e : c.loop-i.i ≡ c.max.result = omega (arith, c.max.ensures, c.loop-i.invariant.3) in
    rw (sym e) (sym c.loop-i.invariant.2 ∙ walk-over _ _ _ _ _ _ c.loop-i-test.false)
