use Rattle.std.proofs.Common.{rules}
use Prim.Native.Nat.{◌+◌, ◌*◌}
use mathlib.Core.Path.{◌≡◌, ◌∙◌}
use Rattle.slices.specs.Slices.{two_bytes}
use Rattle.records.specs.Bytes.{record_at}
use Rattle.records.proofs.Decoded.{decoded, decoded-none}
use Rattle.records.proofs.access.field_at.Goals as goal

pub returns-then-i-recs-clause-first : goal.returns-then-i-recs-clause-first
unfolding record_at
returns-then-i-recs-clause-first c e =
    let a = c.args in
    let w : c.from_le_bytes.result ≡ two_bytes a.recs.now (5 * a.i + a.field) = search rules in
    rw e at w ∙ simp (decoded a.recs.now a.i c.if-i-recs.true)

pub returns-else-i-recs-clause-first : goal.returns-else-i-recs-clause-first
returns-else-i-recs-clause-first c e =
    let a = c.args in
    simp (decoded-none a.recs.now a.i c.if-i-recs.false)

pub returns-then-i-recs-clause-second : goal.returns-then-i-recs-clause-second
unfolding record_at
returns-then-i-recs-clause-second c e =
    let a = c.args in
    let w : c.from_le_bytes.result ≡ two_bytes a.recs.now (5 * a.i + a.field) = search rules in
    rw e at w ∙ simp (decoded a.recs.now a.i c.if-i-recs.true)

pub returns-else-i-recs-clause-second : goal.returns-else-i-recs-clause-second
returns-else-i-recs-clause-second c e =
    let a = c.args in
    simp (decoded-none a.recs.now a.i c.if-i-recs.false)
