use native.Mathlib.Omega.{arith}
use mathlib.Core.Path.{◌≡◌, refl, sym, ◌∙◌}
use Rattle.records.specs.Bytes.{decode}
use Rattle.order.proofs.HintLaws.{fill-skips, fill-over, fill_stop, fill-next}
use Rattle.order.proofs.linking.pass_links.Goals as goal

pub loop-i-init : goal.loop-i-init
loop-i-init c =
    let n = c.count-n.ensures in
    let s4 = c in
    let a = s4.args in (
      n,
      refl,
      refl,
      rw (n, c.skip_accesses-first.ensures)
          (fill-skips (decode a.recs.now) a.ranks.now a.width a.chains a.from a.clocks.now a.hints.now),
      omega arith,
    )

pub shape_of-clocks-then-pass_record : goal.shape_of-clocks-then-pass_record
shape_of-clocks-then-pass_record c =
    let s5 = c in
    s5.pass_record.auto.clocks ∙ s5.loop-i.invariant.1

pub shape_of-hints-then-pass_record : goal.shape_of-hints-then-pass_record
shape_of-hints-then-pass_record c =
    let s5 = c in
    s5.pass_record.auto.hints ∙ s5.loop-i.invariant.2

pub returns-then-pass_record : goal.returns-then-pass_record
returns-then-pass_record c =
    let s5 = c in
    let s8 = s5 in
    let p = s5.pass_record.ensures in
    let l = s8.loop-i in
    rw (p.clocks_are, p.hints_are)
    (sym l.invariant.3 ∙ fill_stop _ _ _ _ l.i l.clocks l.hints s8.loop-i-test.true (sym p.stopped_is ∙ c.if-pass_record.true))

pub loop-i-preserved : goal.loop-i-preserved
loop-i-preserved c =
    let s5 = c in
    let s8 = s5 in
    let p = s5.pass_record.ensures in
    let kept = s5.pass_record.auto in
    let l = s8.loop-i in (
      l.invariant.0,
      kept.clocks ∙ l.invariant.1,
      kept.hints ∙ l.invariant.2,
      rw (p.clocks_are, p.hints_are)
          (sym (fill-next _ _ _ _ l.i l.clocks l.hints s8.loop-i-test.true (sym p.stopped_is ∙ c.if-pass_record.false)) ∙ l.invariant.3),
      omega arith,
    )

pub shape_of-clocks : goal.shape_of-clocks
shape_of-clocks c = c.loop-i.invariant.1

pub shape_of-hints : goal.shape_of-hints
shape_of-hints c = c.loop-i.invariant.2

pub returns : goal.returns
returns c =
    let e : c.loop-i.i ≡ c.max.result = omega (arith, c.max.ensures, c.loop-i.invariant.4) in
    rw (sym e) (sym c.loop-i.invariant.3 ∙ fill-over _ _ _ _ _ _ _ c.loop-i-test.false)
