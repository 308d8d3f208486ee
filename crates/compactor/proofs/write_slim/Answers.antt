use native.Mathlib.Omega.{arith}
use Rattle.records.specs.Bytes.{decode}
use Rattle.compactor.specs.SlimTrace.{slim_of}
use Rattle.compactor.proofs.CompactLaws.{trace-length, writes-slim, few-slim}
use Rattle.compactor.proofs.write_slim.Goals as goal

pub pass-kept-requires : goal.pass-kept-requires
pass-kept-requires c =
    let start = c in
    (start.requires.0, λ y. omega (arith, start.requires.2, trace-length (slim_of (decode start.args.recs.now))))

pub overflow_mul-end : goal.overflow_mul-end
overflow_mul-end c = let start = c in omega (arith, c.pass-kept.ensures.count, few-slim start.requires.0)

pub returns : goal.returns
returns c =
    let at-pass = c in
    let start = at-pass in
    writes-slim start.requires.0 start.requires.1 start.requires.2 at-pass.pass-kept.ensures c.put_trailer.ensures
