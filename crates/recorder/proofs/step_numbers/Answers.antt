use Rattle.recorder.specs.Recording.{of_numbers}
use Rattle.recorder.proofs.Left.{full-none, full-not, spaced, step-closed, step-judged, step-full, step-taken}
use Rattle.records.specs.Bytes.{record_bytes}
use Rattle.records.specs.Encoding.{encode}
use Rattle.records.proofs.Stored.{stored_is}
use mathlib.Core.Path.{sym, ◌∙◌}
use mathlib.Core.List.{[], ◌∷◌}
use Prim.Native.Nat.{◌*◌}
use native.Mathlib.Omega.{arith}
use Rattle.recorder.proofs.step_numbers.Goals as goal

pub returns-then-closed : goal.returns-then-closed
returns-then-closed c =
    let a = c.args in
    simp (c.refused.ensures.0, c.refused.ensures.1, c.at.ensures)
    (step-closed a.bytes.now (of_numbers a.count a.situation a.owner a.closed) a.rec c.if-closed.true)

pub returns-then-not-has_space : goal.returns-then-not-has_space
returns-then-not-has_space c =
    let a = c.args in
    let r = of_numbers a.count a.situation a.owner a.closed in
    let f = full-none a.bytes.now c.stored_records-n.result
    (sym c.has_space.ensures ∙ c.if-not-has_space.true) in
    simp (c.refused-then-not-has_space.ensures.0, c.refused-then-not-has_space.ensures.1, c.at-then-not-has_space.ensures)
    (step-full a.bytes.now r c.if-closed.false c.stored_records-n.result c.stored_records-n.ensures.0 a.rec
    c.in-Ok.next c.in-Ok.ensures f)

pub returns-in-Err : goal.returns-in-Err
returns-in-Err c =
    let a = c.args in
    let r = of_numbers a.count a.situation a.owner a.closed in
    simp (c.refused-in-Err.ensures.0, c.refused-in-Err.ensures.1)
    (step-judged a.bytes.now r c.if-closed.false c.stored_records-n.result c.stored_records-n.ensures.0 a.rec _ _
    c.in-Err.ensures)

pub returns-else-not-has_space : goal.returns-else-not-has_space
returns-else-not-has_space c =
    let a = c.args in
    let r = of_numbers a.count a.situation a.owner a.closed in
    let s = sym c.has_space.ensures ∙ c.if-not-has_space.false in
    let f = full-not a.bytes.now c.stored_records-n.result s in
    let room = spaced a.bytes.now c.stored_records-n.result s in
    let at = record_bytes * c.stored_records-n.result in
    let put = stored_is a.bytes.now at (encode (a.rec ∷ [])) (unfold encode in omega arith) in
    simp (c.step_taken.ensures.0, c.step_taken.ensures.1, c.put_record.ensures, put)
    (step-taken a.bytes.now r c.if-closed.false c.stored_records-n.result c.stored_records-n.ensures.0 a.rec
    c.in-Ok.next c.in-Ok.ensures f)
