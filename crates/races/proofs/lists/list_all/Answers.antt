use Rattle.order.proofs.Counted.{counted-zero}
use Rattle.races.proofs.EntryStores.{listing_start, listing-size, listing-room, listing-next, listing-end, no_second, second_at, way-room, way-writes}
use Rattle.races.proofs.CandidateLaws.{tables-none, tables-pass, kind-access, kind-no-access, access-rank, access-ranked, access-begun, begun-next, counted-le}
use Rattle.records.specs.Bytes.{decode}
use Rattle.records.specs.Records.{at}
use Prim.Native.Nat.{◌<◌}
use lib.ListN.{length}
use native.Mathlib.Omega.{arith}
use mathlib.Core.Path.{sym, ◌∙◌}
use Rattle.races.proofs.lists.list_all.Goals as goal

pub loop-b-init : goal.loop-b-init
loop-b-init g c =
    let start = c in
    let a = start.args in
    (listing_start _ _ _ _, rw (c.zeros.ensures, c.zeros-2.ensures) (tables-none (decode a.filled.layout.recs.now) a.short), sym (counted-zero (decode a.filled.layout.recs.now)))

pub begun_after-begun-requires : goal.begun_after-begun-requires
begun_after-begun-requires g c =
    let l = c in
    let n = l in
    let s = n in
    omega (arith, l.loop-b.invariant.2, counted-le (decode s.args.filled.layout.recs.now) l.loop-b.b, n.count-n.ensures, c.loop-b-test.true, s.args.filled.filled.acceptable.few)

pub loop-b-preserved-then-kind-lt5 : goal.loop-b-preserved-then-kind-lt5
loop-b-preserved-then-kind-lt5 g c =
    let l = c in
    let n = l in
    let s = n in
    let tr = decode s.args.filled.layout.recs.now in
    let f = kind-no-access (at tr l.loop-b.b) (omega (arith, c.base_kind_at-kind.ensures, c.if-kind-lt5.true)) in
    (listing-next l.loop-b.invariant.0 (omega (arith, n.count-n.ensures, c.loop-b-test.true)) _ _ (no_second f _ _ _ _), tables-pass tr s.args.short f l.loop-b.invariant.1, begun-next tr l.loop-b.b c.base_kind_at-kind.ensures l.loop-b.invariant.2 c.begun_after-begun.ensures)

pub overflow_sub-u : goal.overflow_sub-u
overflow_sub-u g c =
    let l = c in
    let n = l in
    let s = n in
    let acc = s.args.filled.filled.acceptable in
    let h : l.loop-b.b < length (decode s.args.filled.layout.recs.now) = omega (arith, n.count-n.ensures, c.loop-b-test.true) in
    let t = kind-access (at (decode s.args.filled.layout.recs.now) l.loop-b.b) (omega (arith, c.base_kind_at-kind.ensures, c.if-kind-lt5.false)) in
    omega (arith, l.loop-b.invariant.2, access-rank acc l.loop-b.b h t, access-ranked acc l.loop-b.b h)

pub take_access-firsts-requires : goal.take_access-firsts-requires
take_access-firsts-requires g c =
    let at-loop-test = c in
    let l = c in
    let n = l in
    let s = n in
    let h : l.loop-b.b < length (decode s.args.filled.layout.recs.now) = omega (arith, n.count-n.ensures, at-loop-test.loop-b-test.true) in
    let t = kind-access (at (decode s.args.filled.layout.recs.now) l.loop-b.b) (omega (arith, c.base_kind_at-kind.ensures, c.if-kind-lt5.false)) in
    record { second = second_at (s.args.filled.filled) h t l.loop-b.invariant.2; tables = l.loop-b.invariant.1 }

pub list_firsts-k-requires : goal.list_firsts-k-requires
list_firsts-k-requires g c =
    let w = c in
    let i = w in
    let l = i in
    let n = l in
    let s = n in
    let h : l.loop-b.b < length (decode s.args.filled.layout.recs.now) = omega (arith, n.count-n.ensures, i.loop-b-test.true) in
    let t = kind-access (at (decode s.args.filled.layout.recs.now) l.loop-b.b) (omega (arith, i.base_kind_at-kind.ensures, i.if-kind-lt5.false)) in
    let r = w.take_access-firsts.ensures.ranges in
    record { second = (second_at s.args.filled.filled h t l.loop-b.invariant.2, r.range); room_if = way-room r (listing-room l.loop-b.invariant.0 s.args.filled.filled.acceptable.few h s.requires) }

pub loop-b-preserved : goal.loop-b-preserved
loop-b-preserved g c =
    let w = c in
    let i = w in
    let l = i in
    let n = l in
    let s = n in
    (listing-next l.loop-b.invariant.0 (omega (arith, n.count-n.ensures, i.loop-b-test.true)) _ _ (way-writes w.take_access-firsts.ensures.ranges c.list_firsts-k.ensures), w.take_access-firsts.ensures.tables_2, l.loop-b.invariant.2 ∙ sym (access-begun (decode s.args.filled.layout.recs.now) l.loop-b.b (omega (arith, i.base_kind_at-kind.ensures, i.if-kind-lt5.false))))

pub shape_of-list : goal.shape_of-list
shape_of-list g c = listing-size c.loop-b.invariant.0

pub returns : goal.returns
returns g c = let n = c in listing-end c.loop-b.invariant.0 (omega (arith, n.count-n.ensures, c.loop-b-test.false))
