use Rattle.recorder.specs.Recording.{of_numbers}
use Rattle.recorder.proofs.Left.{close-closed, close-inside, close-short, close-done}
use Rattle.records.specs.Bytes.{record_bytes}
use Rattle.records.specs.Encoding.{trailer}
use Rattle.records.proofs.Stored.{stored_is}
use mathlib.Core.Path.{◌∙◌}
use native.Mathlib.Omega.{arith}
use Prim.Native.Nat.{◌*◌}
use Rattle.recorder.proofs.close_numbers.Goals as goal

pub returns-then-closed : goal.returns-then-closed
returns-then-closed c =
    let a = c.args in
    simp (c.refused.ensures.0, c.refused.ensures.1, c.at.ensures)
    (close-closed a.bytes.now (of_numbers a.count a.situation a.owner a.closed) c.if-closed.true)

pub returns-then-situation-ne0 : goal.returns-then-situation-ne0
returns-then-situation-ne0 c =
    let a = c.args in
    let r = of_numbers a.count a.situation a.owner a.closed in
    simp (c.refused-then-situation-ne0.ensures.0, c.refused-then-situation-ne0.ensures.1, c.at-then-situation-ne0.ensures)
    (close-inside a.bytes.now r c.if-closed.false c.stored_records-n.result c.stored_records-n.ensures.0
    c.if-situation-ne0.true)

pub returns-then-bytes-at : goal.returns-then-bytes-at
returns-then-bytes-at c =
    let a = c.args in
    let r = of_numbers a.count a.situation a.owner a.closed in
    simp (c.refused-then-bytes-at.ensures.0, c.refused-then-bytes-at.ensures.1, c.at-then-bytes-at.ensures)
    (close-short a.bytes.now r c.if-closed.false c.stored_records-n.result c.stored_records-n.ensures.0
    c.if-situation-ne0.false c.if-bytes-at.true)

pub returns : goal.returns
returns c =
    let a = c.args in
    let r = of_numbers a.count a.situation a.owner a.closed in
    let at = record_bytes * c.stored_records-n.result in
    let put = stored_is a.bytes.now at (trailer at c.begins-begins.result) (unfold trailer in omega arith) in
    simp (c.put_trailer.ensures ∙ put, c.begins-begins.ensures)
    (close-done a.bytes.now r c.if-closed.false c.stored_records-n.result c.stored_records-n.ensures.0
    c.if-situation-ne0.false c.if-bytes-at.false)
