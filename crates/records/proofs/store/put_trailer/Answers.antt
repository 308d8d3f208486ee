use native.Mathlib.Numerals.{towards_suc}
use Rattle.records.proofs.Stored.{stored-sets, stored-none}
use Rattle.records.specs.Encoding.{trailer}
use lib.ListN.{length-set}
use native.Mathlib.Omega.{arith}
use Rattle.records.proofs.store.put_trailer.Goals as goal

pub returns-then-bytes-lt-TRAILER_BYTES : goal.returns-then-bytes-lt-TRAILER_BYTES
unfolding trailer
returns-then-bytes-lt-TRAILER_BYTES c =
    let a = c.args in
    stored-none a.bytes.now a.at (trailer a.distance a.begins) (omega arith)

pub bounds-bytes-at-2 : goal.bounds-bytes-at-2
bounds-bytes-at-2 c = simp length-set (omega arith)

pub shape_of-bytes : goal.shape_of-bytes
shape_of-bytes c = simp length-set (omega arith)

pub returns : goal.returns
unfolding trailer
returns c =
    let a = c.args in
    simp (c.put_two.ensures, c.put_two-2.ensures, c.put_two-3.ensures, towards_suc)
    (stored-sets a.bytes.now a.at (trailer a.distance a.begins) (omega arith))
