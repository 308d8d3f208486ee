use Rattle.records.specs.Search.{least_kind}
use lib.Dec.{eqb}
use mathlib.Core.Bool.{not}
use mathlib.Core.Path.{ap, ◌∙◌}
use Rattle.races.proofs.CandidateLaws.{past-quiet}
use Rattle.races.proofs.ListLaws.{may-found, second-row}
use Rattle.races.proofs.EntryStores.{writing_start, writing-size, writing-few, writing-room, writing-one, writing-past, writing-end}
use Prim.Native.Nat.{◌<◌}
use native.Mathlib.Omega.{arith}
use Rattle.records.specs.Bytes.{decode}
use Rattle.races.proofs.lists.list_range.Goals as goal

pub own_of-own-requires : goal.own_of-own-requires
own_of-own-requires g c = let start = c in second-row start.requires.second.0

pub loop-a-init : goal.loop-a-init
loop-a-init g c =
    let s = c in
    let w = s.requires.second.1 in
    let n = c.next_access-a.ensures.next w.low (omega (arith, w.high, s.requires.second.0.inside)) in
    let v = writing_start (not (eqb g.row.WRITING 0)) (decode s.args.filled.layout.recs.now) s.args.b s.args.firsts.from s.args.k s.args.list.now (omega (arith, w.low, w.high)) in
    (writing-past v n.past.low (omega (arith, n.high, w.high)) (past-quiet _ s.args.b c.cell_at-c.ensures (c.least_kind-least.ensures ∙ ap least_kind c.kind_at.ensures) n.past), n.high, n.found)

pub list_race-e-requires : goal.list_race-e-requires
list_race-e-requires g c =
    let l = c in
    let k = l in
    let o = k in
    let s = o in
    let i = l.loop-a.invariant in
    let h : l.loop-a.a < s.args.b = omega (arith, s.requires.second.1.high, c.loop-a-test.true) in
    let e = o.own_of-own.ensures.0 in record {
      one_room = record {
        second = rw e s.requires.second.0;
        earlier = h;
        may = may-found _ l.loop-a.a s.args.b k.cell_at-c.ensures (k.least_kind-least.ensures ∙ ap least_kind k.kind_at.ensures) (i.2 c.loop-a-test.true);
        few = writing-few i.0 s.requires.room_if.few;
        space = writing-room i.0 h s.requires.room_if;
      };
      own_is = rw e o.own_of-own.ensures.1;
    }

pub overflow_add-a : goal.overflow_add-a
overflow_add-a g c =
    let t = c in
    let s = t in
    omega (arith, t.loop-a-test.true, s.requires.second.1.high, s.requires.second.0.inside, s.requires.second.0.filled.acceptable.few)

pub loop-a-smaller : goal.loop-a-smaller
loop-a-smaller g c =
    let t = c in
    let s = t in
    let n = c.next_access-a-in-loop-a.ensures.next (omega (arith, t.loop-a-test.true)) (omega (arith, s.requires.second.1.high, s.requires.second.0.inside)) in
    omega (arith, n.past.low, t.loop-a-test.true, n.high)

pub loop-a-preserved : goal.loop-a-preserved
loop-a-preserved g c =
    let t = c in
    let l = t in
    let k = l in
    let o = k in
    let s = o in
    let w = s.requires.second.1 in
    let n = c.next_access-a-in-loop-a.ensures.next (omega (arith, t.loop-a-test.true)) (omega (arith, w.high, s.requires.second.0.inside)) in
    let h : l.loop-a.a < s.args.b = omega (arith, w.high, t.loop-a-test.true) in
    (writing-past (writing-one l.loop-a.invariant.0 h _ _ c.list_race-e.ensures) n.past.low (omega (arith, n.high, w.high)) (past-quiet _ s.args.b k.cell_at-c.ensures (k.least_kind-least.ensures ∙ ap least_kind k.kind_at.ensures) n.past), n.high, n.found)

pub shape_of-list : goal.shape_of-list
shape_of-list g c = writing-size c.loop-a.invariant.0

pub returns : goal.returns
returns g c =
    let l = c in
    let s = l in
    writing-end l.loop-a.invariant.0 c.loop-a-test.false s.requires.second.1
