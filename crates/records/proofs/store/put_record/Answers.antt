use mathlib.Core.List.{[], ◌∷◌}
use native.Mathlib.Numerals.{towards_suc}
use Rattle.records.proofs.Stored.{stored-sets, stored-none}
use Rattle.records.specs.Encoding.{encode}
use lib.ListN.{length-set}
use native.Mathlib.Omega.{arith}
use Rattle.records.proofs.store.put_record.Goals as goal

pub returns-then-bytes-lt-RECORD_BYTES : goal.returns-then-bytes-lt-RECORD_BYTES
unfolding encode
returns-then-bytes-lt-RECORD_BYTES c =
    let a = c.args in
    stored-none a.bytes.now a.at (encode (a.rec ∷ [])) (omega arith)

pub put_two-requires : goal.put_two-requires
put_two-requires c = simp length-set (omega arith)

pub put_two-requires-2 : goal.put_two-requires-2
put_two-requires-2 c =
    simp (c.put_two.ensures, length-set) (omega arith)

pub shape_of-bytes : goal.shape_of-bytes
shape_of-bytes c =
    omega (arith, length-set c.args.bytes.now c.args.at c.args.rec.kind)

pub returns : goal.returns
unfolding encode
returns c =
    let a = c.args in
    simp (c.put_two.ensures, c.put_two-2.ensures, towards_suc)
    (stored-sets a.bytes.now a.at (encode (a.rec ∷ [])) (omega arith))
