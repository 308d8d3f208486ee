use Prim.Native.Nat.{ℕ, ◌+◌, ◌*◌, ◌-◌, ◌<◌}
use mathlib.Core.Bool.{false}
use mathlib.Core.Path.{◌≡◌, sym, ◌∙◌}
use native.Mathlib.Omega.{arith}
use native.Mathlib.Nat.{add_assoc}
use Rattle.order.specs.loops.Pass.{full_at, choose_in}
use borrow.Author.Tests.{ne_eqb}
use Rattle.order.proofs.CountLaws.{first_past}
use Rattle.order.proofs.merge.choose.Goals as goal

pub loop-c-init : goal.loop-c-init
unfolding choose_in
loop-c-init c =
    let s = c in
    let e : s.args.chains - 0 ≡ s.args.chains = omega arith in
    let z : 0 + s.args.from ≡ s.args.from = omega arith in
    let q = full_at (s.args.u * s.args.width) s.args.clocks.now s.args.sizes.now in
    let low : (j : ℕ) → j < s.args.from → q (0 + j) ≡ false = λ j h. let k : 0 + j ≡ j = omega arith in rw k (ne_eqb _ _ (s.requires.2 j h)) in
    (s.requires.1, sym (rw z at (first_past q s.args.chains s.args.from 0 (omega (arith, s.requires.1)) low)) ∙ rw e)

pub returns-then-among_sixteen : goal.returns-then-among_sixteen
returns-then-among_sixteen c =
    let at-loop = c in
    c.choose_near.ensures ∙ at-loop.loop-c.invariant.1

pub loop-c-preserved : goal.loop-c-preserved
loop-c-preserved c =
    let l = c.loop-c in
    let f = c.among_sixteen.ensures c.if-among_sixteen.false in
    (omega arith, sym (first_past _ _ 16 l.c (omega arith) (λ j h. ne_eqb _ _ (λ e. f j h (rw add_assoc e)))) ∙ l.invariant.1)

pub returns : goal.returns
returns c = c.choose_near-2.ensures ∙ c.loop-c.invariant.1
