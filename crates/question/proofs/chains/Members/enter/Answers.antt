use Prim.Native.Nat.{suc, ◌+◌, max}
use mathlib.Core.Path.{◌≡◌, refl}
use native.Mathlib.Omega.{arith}
use borrow.Author.Tests.{le-leb, lt-leb}
use Rattle.question.specs.loops.ChainPass.{enter_chain}
use Rattle.question.proofs.chains.Members.enter.Goals as goal

pub returns-then-asked-c : goal.returns-then-asked-c
unfolding enter_chain
returns-then-asked-c c = let e : c.args.asked.width + 1 ≡ suc c.args.asked.width = omega arith in rw (le-leb _ _ c.if-asked-c.true, e) refl

pub returns : goal.returns
unfolding enter_chain
returns c =
    let m : c.max-self.result ≡ max c.args.self.now.chains (suc c.args.c) = omega (arith, c.max-self.ensures) in
    rw (lt-leb _ _ c.if-asked-c.false, m, c.own_chain-self.ensures, c.own_chain-self-2.ensures) refl
