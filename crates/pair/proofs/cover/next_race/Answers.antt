use native.Mathlib.Omega.{arith}
use Prim.Native.Nat.{◌<◌}
use mathlib.Core.Path.{sym, ◌∙◌, subst}
use lib.Dec.{T}
use lib.ListN.{length}
use Rattle.records.specs.Bytes.{decode}
use Rattle.pair.specs.loops.PairSearch.{Sought}
use Rattle.pair.proofs.RecordRows.{row_low}
use Rattle.pair.proofs.RowMarks.{marks-room}
use Rattle.pair.proofs.CoverLaws.{row_told, no-race-start, no-race-next, next-found, next-some}
use Rattle.pair.proofs.RankedClocks.{ranked_clocks}
use Rattle.pair.proofs.cover.next_race.Goals as goal

pub loop-d-init : goal.loop-d-init
loop-d-init c = (omega arith, no-race-start (ranked_clocks c.args.ranked).acceptable c.args.b c.requires.0.inside c.args.t c.block_start-lo.result)

pub find_first-requires : goal.find_first-requires
find_first-requires c =
    let f = ranked_clocks c.args.ranked in
    let h : c.args.t < length (decode c.args.ranked.filled.recs.now) = omega (arith, c.requires.1, c.requires.0.inside) in
    let r = row_low f.acceptable c.args.t h in
    let e = row_told f c.args.t h c.row_at-r.ensures in
    (marks-room c.requires.0, omega arith, c.loop-d.invariant.0, omega (arith, c.loop-d-test.true, c.requires.0.inside))

pub returns-in-Some : goal.returns-in-Some
returns-in-Some c =
    let f = ranked_clocks c.args.ranked in
    let h : c.args.t < length (decode c.args.ranked.filled.recs.now) = omega (arith, c.requires.1, c.requires.0.inside) in
    let found = c.in-Some.ensures in
    next-found f.acceptable c.args.b c.requires.0.inside c.args.t _ c.loop-d.d c.in-Some.c c.loop-d-test.true found.0 (found.1 c.args.b c.args.t c.requires.0 h (row_told f c.args.t h c.row_at-r.ensures))

pub loop-d-preserved : goal.loop-d-preserved
loop-d-preserved c =
    let f = ranked_clocks c.args.ranked in
    let h : c.args.t < length (decode c.args.ranked.filled.recs.now) = omega (arith, c.requires.1, c.requires.0.inside) in
    let none = c.in_default.ensures c.args.b c.args.t c.requires.0 h (row_told f c.args.t h c.row_at-r.ensures) in
    (omega (arith, c.loop-d.invariant.0), no-race-next f.acceptable c.args.b c.requires.0.inside c.args.t _ c.loop-d.d c.loop-d.d (omega arith) none c.loop-d.invariant.1)

pub returns : goal.returns
returns c =
    let f = ranked_clocks c.args.ranked in
    let sought : Sought (decode c.args.ranked.filled.recs.now) c.args.b c.args.t = record { below = c.requires.1; leading = c.requires.2; apart = λ h. subst T (sym c.is_before.ensures ∙ c.if-is_before.false) h } in
    absurd (next-some f.acceptable c.args.b c.requires.0.inside c.args.t _ sought c.block_start-lo.ensures c.loop-d.d c.loop-d-test.false c.loop-d.invariant.1)
