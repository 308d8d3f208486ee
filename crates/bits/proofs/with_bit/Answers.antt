use Prim.Native.Nat.{◌^◌}
use mathlib.Core.Path.{ap, ◌∙◌}
use native.Mathlib.Nat.{one-mul}
use native.Mathlib.Omega.{arith}
use lib.Bits.{bit_or}
use lib.Dec.{lit<}
use lib.Pow.{shl_exact}
use Rattle.bits.specs.Words.{with_bit}
use Rattle.bits.proofs.with_bit.Goals as goal

pub returns : goal.returns
unfolding with_bit
returns c = let k = c.args.k in
    let h = c.requires in
    ap (bit_or c.args.w) (shl_exact {a = 1} 1 k 64 (lit< tt) (omega arith) ∙ one-mul (2 ^ k))
