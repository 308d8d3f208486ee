use Prim.Native.Nat.{◌+◌, ◌*◌, ◌-◌}
use mathlib.Core.Path.{◌≡◌, sym, ◌∙◌}
use native.Mathlib.Omega.{arith}
use lib.ListN.{length, drop, length-drop, drop_of_length-le}
use lib.Seq.{take_all, take-nil}
use Rattle.records.specs.Bytes.{part}
use Rattle.records.proofs.access.records_from.Goals as goal

pub returns-then-n-start : goal.returns-then-n-start
unfolding part
returns-then-n-start c =
    let a = c.args in
    let e = length a.bytes.now in
    simp (drop_of_length-le a.bytes.now {i = e} (omega arith), drop_of_length-le a.bytes.now {i = a.start} (omega arith), take-nil)

pub returns-then-rest-records : goal.returns-then-rest-records
unfolding part
returns-then-rest-records c =
    let a = c.args in
    let r = drop a.start a.bytes.now in
    let l : length r ≡ length a.bytes.now - a.start = length-drop a.start a.bytes.now in
    take_all (length a.bytes.now - a.start) r (omega arith) ∙ sym (take_all (5 * a.records) r (omega arith))

pub returns : goal.returns
unfolding part
returns c =
    let a = c.args in
    let e : a.start + 5 * a.records - a.start ≡ 5 * a.records = omega arith in
    rw e
