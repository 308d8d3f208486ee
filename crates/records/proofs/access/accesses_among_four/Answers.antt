use Rattle.records.proofs.Leading.{four-0, four-1, four-2, four-3, four-4}
use Rattle.records.proofs.Decoded.{decoded-length}
use mathlib.Core.Path.{sym}
use native.Mathlib.Omega.{arith}
use Rattle.records.proofs.access.accesses_among_four.Goals as goal

pub returns-then-kind_at-lt5 : goal.returns-then-kind_at-lt5
returns-then-kind_at-lt5 c = sym (four-0 _ _ (rw c.kind_at.ensures at c.if-kind_at-lt5.true))

pub overflow_add-i : goal.overflow_add-i
overflow_add-i c = omega (arith, decoded-length c.args.recs.now)

pub returns-then-kind_at-lt5-2 : goal.returns-then-kind_at-lt5-2
returns-then-kind_at-lt5-2 c = sym (four-1 _ _ (rw c.kind_at.ensures at c.if-kind_at-lt5.false) (rw c.kind_at-2.ensures at c.if-kind_at-lt5-2.true))

pub overflow_add-i-2 : goal.overflow_add-i-2
overflow_add-i-2 c =
    let start = c in
    omega (arith, decoded-length start.args.recs.now)

pub returns-then-kind_at-lt5-3 : goal.returns-then-kind_at-lt5-3
returns-then-kind_at-lt5-3 c =
    let b = c in
    let a = b in
    sym (four-2 _ _ (rw a.kind_at.ensures at a.if-kind_at-lt5.false) (rw b.kind_at-2.ensures at b.if-kind_at-lt5-2.false) (rw c.kind_at-3.ensures at c.if-kind_at-lt5-3.true))

pub overflow_add-i-3 : goal.overflow_add-i-3
overflow_add-i-3 c =
    let start = c in
    omega (arith, decoded-length start.args.recs.now)

pub returns-then-kind_at-lt5-4 : goal.returns-then-kind_at-lt5-4
returns-then-kind_at-lt5-4 c =
    let d = c in
    let b = d in
    let a = b in
    sym (four-3 _ _ (rw a.kind_at.ensures at a.if-kind_at-lt5.false) (rw b.kind_at-2.ensures at b.if-kind_at-lt5-2.false) (rw d.kind_at-3.ensures at d.if-kind_at-lt5-3.false) (rw c.kind_at-4.ensures at c.if-kind_at-lt5-4.true))

pub returns : goal.returns
returns c =
    let d = c in
    let b = d in
    let a = b in
    sym (four-4 _ _ (rw a.kind_at.ensures at a.if-kind_at-lt5.false) (rw b.kind_at-2.ensures at b.if-kind_at-lt5-2.false) (rw d.kind_at-3.ensures at d.if-kind_at-lt5-3.false) (rw c.kind_at-4.ensures at c.if-kind_at-lt5-4.false))
