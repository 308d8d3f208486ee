use Prim.Native.Nat.{◌-◌}
use mathlib.Core.Path.{◌≡◌, refl, sym, ap, ◌∙◌}
use native.Mathlib.Omega.{arith}
use lib.ListN.{length, length-take, length-drop}
use Rattle.clocks.specs.Rows.{span}
use Rattle.clocks.proofs.RowLaws.{row_fits, rows_apart, span-le, copied_at, copy-length, copy-next, copy-over, copy-row-none, copy-row-is, past-at, past-length}
use Rattle.clocks.proofs.copy_row.Goals as goal

pub returns-then-not-fits : goal.returns-then-not-fits
returns-then-not-fits c = sym (copy-row-none _ _ _ _ _ (sym c.fits.ensures ∙ c.if-not-fits.true))

pub overflow_mul-a : goal.overflow_mul-a
overflow_mul-a c =
    let k = c.args in
    let f = rows_apart _ k.width k.p k.u (sym c.fits.ensures ∙ c.if-not-fits.false) in
    let g = row_fits k.u k.width c.ranges.u.fits f.stands.narrow in
    omega arith

pub overflow_add-e : goal.overflow_add-e
overflow_add-e c =
    let k = c.args in
    let f = rows_apart _ k.width k.p k.u (sym c.fits.ensures ∙ c.if-not-fits.false) in
    let g = row_fits k.u k.width c.ranges.u.fits f.stands.narrow in
    omega arith

pub overflow_mul-b : goal.overflow_mul-b
overflow_mul-b c =
    let k = c.args in
    let f = rows_apart _ k.width k.p k.u (sym c.fits.ensures ∙ c.if-not-fits.false) in
    let g = row_fits k.u k.width c.ranges.u.fits f.stands.narrow in
    omega arith

pub loop-c-init : goal.loop-c-init
loop-c-init c =
    let b = c in
    let k = b.args in
    let t = sym b.fits.ensures ∙ b.if-not-fits.false in
    let f = rows_apart _ k.width k.p k.u t in
    let r : c.smaller-entries.result ≡ span k.width k.chains k.p = unfold span in omega (arith, c.smaller-entries.ensures, c.most.ensures) in
    let z : c.smaller-entries.result - 0 ≡ c.smaller-entries.result = omega arith in
    (omega arith, r, refl, f.before, f.stands.inside, omega (arith, span-le k.width k.chains k.p), rw z refl)

pub bounds-row-c : goal.bounds-row-c
bounds-row-c c = simp (length-take, length-drop) (omega arith)

pub loop-c-preserved : goal.loop-c-preserved
loop-c-preserved c =
    let at_before = c in
    let l = at_before in
    let a = l.args in
    let step = copied_at a.width a.p a.u l.loop-c.c l.loop-c.clocks _ (omega arith) (omega arith) refl in
    (omega arith, l.loop-c.invariant.1, ap length step ∙ (copy-length _ _ _ _ _ ∙ l.loop-c.invariant.2), l.loop-c.invariant.3, l.loop-c.invariant.4, l.loop-c.invariant.5, rw step (sym (copy-next _ _ _ _ _ _ (omega arith)) ∙ l.loop-c.invariant.6))

pub shape_of-clocks : goal.shape_of-clocks
shape_of-clocks c =
    let l = c in
    let k = l.args in
    let step = past-at k.width k.u _ l.loop-c.clocks _ (omega arith) l.loop-c.invariant.5 c.clear.ensures in
    ap length step ∙ (past-length k.width k.u _ l.loop-c.clocks (omega arith) l.loop-c.invariant.5 ∙ l.loop-c.invariant.2)

pub returns : goal.returns
returns c =
    let l = c in
    let b = l in
    let k = b.args in
    let t = sym b.fits.ensures ∙ b.if-not-fits.false in
    let step = past-at k.width k.u _ l.loop-c.clocks _ (omega arith) l.loop-c.invariant.5 c.clear.ensures in
    let copied = sym (copy-over _ _ _ _ _ _ (omega arith)) ∙ l.loop-c.invariant.6 in
    step ∙ (rw (copied, l.loop-c.invariant.1) (sym (copy-row-is _ _ _ _ _ t)))
