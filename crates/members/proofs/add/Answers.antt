use Prim.Native.Nat.{◌/◌, ◌%◌, ◌^◌}
use mathlib.Core.Path.{sym, ap, ◌∙◌}
use native.Mathlib.Nat.{one-mul}
use native.Mathlib.Omega.{arith}
use lib.Bits.{bit_or}
use lib.Dec.{lit<}
use lib.ListN.{get_or, set}
use lib.Pow.{shl_exact}
use lib.Seq.{set_out}
use Rattle.bits.specs.Words.{with_bit}
use Rattle.members.specs.Members.{with_member}
use Rattle.members.proofs.add.Goals as goal

pub returns-then-at-work : goal.returns-then-at-work
unfolding with_member with_bit
returns-then-at-work c =
    let a = c.args in
    let w = a.work.now in
    let t = a.t in
    ap (λ x. set w (t / 8) (bit_or (get_or w (t / 8) 0) x)) (shl_exact {a = 1} 1 (t % 8) 8 (lit< tt) (omega arith) ∙ one-mul (2 ^ (t % 8)))

pub returns-else-at-work : goal.returns-else-at-work
unfolding with_member
returns-else-at-work c = sym (set_out c.args.work.now _ _ c.if-at-work.false)
