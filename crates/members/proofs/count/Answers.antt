use Rattle.std.proofs.lemmas.List.{get_or-take}
use Prim.Native.Nat.{◌+◌, ◌<◌}
use mathlib.Core.Path.{refl, sym, ap, ◌∙◌}
use native.Mathlib.Omega.{arith}
use lib.Count as Count
use lib.ListN.{get_or, length-take}
use Rattle.members.specs.Members.{ones}
use Rattle.members.proofs.CountLaws.{ones-next, ones-there}
use Rattle.members.proofs.count.Goals as goal

pub loop-byte-init : goal.loop-byte-init
unfolding ones
loop-byte-init c = (refl, omega arith)

pub overflow_add-total : goal.overflow_add-total
overflow_add-total c =
    let w = c.args.work.now in
    let i = c.loop-byte.byte-index in
    let there : i < c.min-end.result = omega (arith, c.loop-byte-test.true, length-take c.min-end.result w) in
    let here = get_or-take c.min-end.result w i 0 there in
    rw here (omega (arith, c.loop-byte.invariant.1, Count.ones-le 8 _ (c.type_inv.work i).fits, c.min-end.ensures, c.min.ensures))

pub loop-byte-preserved : goal.loop-byte-preserved
loop-byte-preserved c =
    let w = c.args.work.now in
    let i = c.loop-byte.byte-index in
    let there : i < c.min-end.result = omega (arith, c.loop-byte-test.true, length-take c.min-end.result w) in
    let here = get_or-take c.min-end.result w i 0 there in
    rw here (ap (λ x. x + Count.ones (get_or w i 0)) c.loop-byte.invariant.0 ∙ sym (ones-next w i), omega (arith, c.loop-byte.invariant.1, Count.ones-le 8 _ (c.type_inv.work i).fits))

pub returns : goal.returns
returns c =
    let w = c.args.work.now in
    c.loop-byte.invariant.0 ∙ ones-there w c.args.n c.loop-byte.byte-index (omega (arith, c.loop-byte-test.false, length-take c.min-end.result w))
