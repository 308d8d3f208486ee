use native.Mathlib.Omega.{arith}
use Rattle.trace.specs.Reading.{records_in}
use Rattle.trace.proofs.Accepted.{framed, records-length}
use Rattle.trace.proofs.Replies.{refused-first, scanned-first}
use Rattle.trace.proofs.read_plain.Goals as goal

pub returns-in_default : goal.returns-in_default
returns-in_default c = rw c.in_default.is (refused-first c.args.bytes.now c.in_default.field-0 c.in_default.ensures)

pub scan-requires : goal.scan-requires
unfolding records_in
scan-requires c =
    let fr = framed c.args.bytes.now c.in-Ok.t c.in-Ok.ensures in
    let n = records-length fr in
    let few = fr.few in
    simp c.records.ensures (omega arith)

pub returns : goal.returns
unfolding records_in
returns c =
    scanned-first c.args.bytes.now c.in-Ok.t c.in-Ok.ensures (rw c.records.ensures at c.scan.ensures)
