use lib.Dec.{leb→le}
use Prim.Native.Nat.{◌*◌, ◌/◌, ◌≤◌}
use native.Mathlib.Omega.{arith}
use native.Mathlib.Nat.{mul-le-mul}
use Rattle.races.proofs.ListEnds.{not-both}
use Rattle.races.proofs.lists.is_ample.Goals as goal

pub returns-then-records-lt2 : goal.returns-then-records-lt2
returns-then-records-lt2 c = λ x. absurd x

pub returns-then-records-gt4096 : goal.returns-then-records-gt4096
returns-then-records-gt4096 c = λ x. absurd x

pub returns-then-short : goal.returns-then-short
returns-then-short c = λ x.
    let a = c.args in
    let l = leb→le a.records (a.space / 5 / 2) x in
    (omega arith, record { for_short = λ e. omega arith; for_all = λ e. absurd (not-both a.short c.if-short.true e) })

pub overflow_mul-result : goal.overflow_mul-result
overflow_mul-result c =
    let a = c.args in
    let h : a.records ≤ 4096 = omega arith in
    omega (arith, mul-le-mul h h)

pub returns-else-short : goal.returns-else-short
returns-else-short c = λ x.
    let a = c.args in
    let l = leb→le (a.records * a.records / 2) (a.space / 5) x in
    (omega arith, record { for_short = λ e. absurd (not-both a.short e c.if-short.false); for_all = λ e. l })
