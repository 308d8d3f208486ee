use native.Mathlib.Omega.{arith}
use mathlib.Core.Path.{refl}
use Rattle.std.proofs.lemmas.Result.{err_from_is_err_and}
use Rattle.pair_lists.proofs.CopyLaws.{fits, copied}
use Rattle.pair_lists.proofs.list_into.Goals as goal

pub returns-in_err-made : goal.returns-in_err-made
returns-in_err-made c =
    let p = err_from_is_err_and c.from_residual.result c.from_residual.ensures.1 in
    rw (p.1, p.2) (copied c.in_err-made.ensures refl)

pub copy_out-requires : goal.copy_out-requires
copy_out-requires c =
    let f = fits c.in_ok-made.ensures in
    let l = c.list_within.auto.numbers in
    (omega arith, omega arith)

pub returns : goal.returns
returns c = copied c.in_ok-made.ensures c.copy_out.ensures
