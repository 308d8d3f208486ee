use Prim.Native.Nat.{◌-◌}
use mathlib.Core.Path.{◌≡◌, refl, sym, ◌∙◌}
use native.Mathlib.Omega.{arith}
use Rattle.bits.specs.Words.{or_at}
use Rattle.bits.proofs.WordLaws.{or-at-length, from_next, from-over}
use Rattle.bits.proofs.or_words.Goals as goal

pub loop-i-init : goal.loop-i-init
loop-i-init c = let z : c.args.n - 0 ≡ c.args.n = omega arith in
    (omega arith, refl, omega arith, omega arith, rw z)

pub loop-i-preserved : goal.loop-i-preserved
unfolding or_at
loop-i-preserved c = let l = c in
    let k = l.args in
    let v = l.loop-i.invariant in
    (omega arith, or-at-length l.loop-i.words k.a k.b l.loop-i.i l.loop-i.words ∙ v.1, v.2, v.3, sym (from_next k.a k.b l.loop-i.i l.loop-i.words k.n (omega arith)) ∙ v.4)

pub shape_of-words : goal.shape_of-words
shape_of-words c = c.loop-i.invariant.1

pub returns : goal.returns
returns c = let l = c in
    let k = l.args in
    sym (from-over k.a k.b l.loop-i.i l.loop-i.words k.n (omega arith)) ∙ l.loop-i.invariant.4
