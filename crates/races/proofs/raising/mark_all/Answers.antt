use native.Mathlib.Omega.{arith}
use borrow.Author.Rules.{rules}
use mathlib.Core.Path.{◌≡◌}
use Rattle.races.proofs.MarkedList.{list-room}
use Rattle.races.proofs.MarkAllLaws.{marking-start, second-some, may-go, arrived, markable, marking-last, raise-room, marking-next, left-size, left-rest}
use Rattle.races.proofs.raising.mark_all.Goals as goal

pub loop-k-init : goal.loop-k-init
loop-k-init c =
    let start = c in
    let pre = start.requires in (pre.0, pre.1, marking-start pre.0 pre.1)

pub overflow_mul-k : goal.overflow_mul-k
overflow_mul-k c = let loop = c.loop-k in let r = list-room loop.invariant.1 loop.invariant.2.remarked in search rules

pub overflow_add-k : goal.overflow_add-k
overflow_add-k c = let loop = c.loop-k in let r = list-room loop.invariant.1 loop.invariant.2.remarked in search rules

pub offset_bounds-list-k : goal.offset_bounds-list-k
offset_bounds-list-k c = let loop = c.loop-k in let r = list-room loop.invariant.1 loop.invariant.2.remarked in search rules

pub bounds-list-k : goal.bounds-list-k
bounds-list-k c = let loop = c.loop-k in let loop-test = c.loop-k-test in let r = list-room loop.invariant.1 loop.invariant.2.remarked in omega (arith, loop-test.true)

pub row_of-u-requires : goal.row_of-u-requires
row_of-u-requires c = let loop = c.loop-k in let loop-test = c.loop-k-test in omega (arith, second-some loop.invariant.0 loop.invariant.1 loop.invariant.2 loop-test.true)

pub go_on-s-requires : goal.go_on-s-requires
go_on-s-requires c =
    let at-loop = c in
    let loop = at-loop.loop-k in let loop-test = c.loop-k-test in let row_at = c.row_of-u in
    let start = at-loop in
    may-go loop.invariant.0 loop.invariant.1 loop.invariant.2 loop-test.true _ row_at.ensures.0

pub mark_second-e-requires : goal.mark_second-e-requires
mark_second-e-requires c =
    let at-go-on = c in
    let at-row-at = at-go-on in
    let at-loop-test = at-row-at in
    let at-loop = at-loop-test in
    let loop = at-loop.loop-k in let loop-test = at-loop-test.loop-k-test in let row_at = at-row-at.row_of-u in let go_on = at-go-on.go_on-s in markable loop.invariant.0 loop.invariant.1 loop.invariant.2 loop-test.true _ row_at.ensures.0 (arrived loop.invariant.0 loop.invariant.1 loop.invariant.2 loop-test.true _ row_at.ensures.0 go_on.ensures).1

pub raise-requires : goal.raise-requires
raise-requires c =
    let at-mark-second = c in
    let at-go-on = at-mark-second in
    let at-row-at = at-go-on in
    let at-loop-test = at-row-at in
    let at-loop = at-loop-test in
    let loop = at-loop.loop-k in let loop-test = at-loop-test.loop-k-test in let row_at = at-row-at.row_of-u in let go_on = at-go-on.go_on-s in let mark-second = at-mark-second.mark_second-e in let if1 = c.if-e-count in raise-room loop.invariant.0 loop.invariant.1 loop.invariant.2 loop-test.true _ row_at.ensures.0 (arrived loop.invariant.0 loop.invariant.1 loop.invariant.2 loop-test.true _ row_at.ensures.0 go_on.ensures).1 mark-second.ensures if1.true

pub loop-k-preserved-then-e-count : goal.loop-k-preserved-then-e-count
loop-k-preserved-then-e-count c =
    let at-if = c in
    let at-mark-second = at-if in
    let at-go-on = at-mark-second in
    let at-row-at = at-go-on in
    let at-loop-test = at-row-at in
    let at-loop = at-loop-test in
    let loop = at-loop.loop-k in let loop-test = at-loop-test.loop-k-test in let row_at = at-row-at.row_of-u in let go_on = at-go-on.go_on-s in let mark-second = at-mark-second.mark_second-e in let if1 = at-if.if-e-count in let raise = c.raise in let a = arrived loop.invariant.0 loop.invariant.1 loop.invariant.2 loop-test.true _ row_at.ensures.0 go_on.ensures in (loop.invariant.0, loop.invariant.1, rw a.0 (marking-next loop.invariant.0 loop.invariant.1 loop.invariant.2 loop-test.true _ row_at.ensures.0 a.1 mark-second.ensures if1.true raise.ensures))

pub loop-k-preserved : goal.loop-k-preserved
loop-k-preserved c =
    let at-go-on = c in
    let at-row-at = at-go-on in
    let at-loop-test = at-row-at in
    let at-loop = at-loop-test in
    let loop = at-loop.loop-k in let loop-test = at-loop-test.loop-k-test in let row_at = at-row-at.row_of-u in let go_on = at-go-on.go_on-s in let mark-second = c.mark_second-e in let if1 = c.if-e-count in let a = arrived loop.invariant.0 loop.invariant.1 loop.invariant.2 loop-test.true _ row_at.ensures.0 go_on.ensures in (loop.invariant.0, loop.invariant.1, rw a.0 (marking-last loop.invariant.0 loop.invariant.1 loop.invariant.2 loop-test.true _ row_at.ensures.0 a.1 mark-second.ensures if1.false))

pub shape_of-clocks : goal.shape_of-clocks
shape_of-clocks c = let loop = c.loop-k in left-size loop.invariant.0 loop.invariant.1 loop.invariant.2.left

pub returns : goal.returns
returns c =
    let start = c in
    let loop = c.loop-k in let args = start.args in let loop-test = c.loop-k-test in let z : loop.k ≡ args.count = omega (arith, loop.invariant.2.within, loop-test.false) in record { remarked = rw z at loop.invariant.2.remarked; past_rows = left-rest loop.invariant.0 loop.invariant.1 loop.invariant.2.left }
