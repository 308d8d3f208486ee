use Prim.Native.Nat.{◌-◌}
use mathlib.Core.Path.{◌≡◌, refl, sym, ap, ◌∙◌}
use native.Mathlib.Omega.{arith}
use lib.ListN.{length, set, length-take, length-drop}
use Rattle.clocks.specs.Rows.{reach}
use Rattle.clocks.proofs.RowLaws.{row_fits, rows_apart, reach-le, merged-at, merge-length, merge-next, merge-over, merge-row-none, merge-row-is}
use Rattle.clocks.proofs.merge_row.Goals as goal

pub returns-then-not-fits : goal.returns-then-not-fits
returns-then-not-fits c = sym (merge-row-none _ _ _ _ _ (sym c.fits.ensures ∙ c.if-not-fits.true))

pub overflow_mul-a : goal.overflow_mul-a
overflow_mul-a c =
    let k = c.args in
    let f = rows_apart _ k.width k.p k.u (sym c.fits.ensures ∙ c.if-not-fits.false) in
    let g = row_fits k.u k.width c.ranges.u.fits f.stands.narrow in
    omega arith

pub overflow_add-e : goal.overflow_add-e
overflow_add-e c =
    let k = c.args in
    let f = rows_apart _ k.width k.p k.u (sym c.fits.ensures ∙ c.if-not-fits.false) in
    let g = row_fits k.u k.width c.ranges.u.fits f.stands.narrow in
    omega arith

pub overflow_mul-b : goal.overflow_mul-b
overflow_mul-b c =
    let k = c.args in
    let f = rows_apart _ k.width k.p k.u (sym c.fits.ensures ∙ c.if-not-fits.false) in
    let g = row_fits k.u k.width c.ranges.u.fits f.stands.narrow in
    omega arith

pub loop-c-init : goal.loop-c-init
loop-c-init c =
    let b = c in
    let k = b.args in
    let t = sym b.fits.ensures ∙ b.if-not-fits.false in
    let f = rows_apart _ k.width k.p k.u t in
    let r : c.smaller-entries.result ≡ reach k.width k.chains k.p = unfold reach in omega (arith, c.smaller-entries.ensures, c.most.ensures) in
    let z : c.smaller-entries.result - 0 ≡ reach k.width k.chains k.p = omega arith in
    (omega arith, omega (arith, reach-le k.width k.chains k.p), refl, f.before, f.stands.inside, rw z (sym (merge-row-is _ _ _ _ _ t)))

pub bounds-row-c : goal.bounds-row-c
bounds-row-c c = simp (length-take, length-drop) (omega arith)

pub loop-c-preserved : goal.loop-c-preserved
loop-c-preserved c =
    let at_before = c in
    let l = at_before in
    let a = l.args in
    let step = merged-at a.width a.p a.u l.loop-c.c l.loop-c.clocks _ (omega arith) (omega arith) (ap (set _ l.loop-c.c) c.max.ensures) in
    (omega arith, l.loop-c.invariant.1, ap length step ∙ (merge-length _ _ _ _ _ ∙ l.loop-c.invariant.2), l.loop-c.invariant.3, l.loop-c.invariant.4, rw step (sym (merge-next _ _ _ _ _ _ (omega arith)) ∙ l.loop-c.invariant.5))

pub returns : goal.returns
returns c = sym (merge-over _ _ _ _ _ _ (omega arith)) ∙ c.loop-c.invariant.5
