use native.Mathlib.Omega.{arith}
use mathlib.Core.Path.{sym, ap, ◌∙◌}
use lib.ListN.{length, length-set}
use Rattle.pair.proofs.KeptEntries.{ends-start, ends-long, ends-row, ends-room, ends_next, ends-pass, ends-last-room, ends_last}
use Rattle.pair.proofs.put_kept.Goals as goal
use Rattle.pair.proofs.put_kept.Goals.{then-kind_at-eq2, else-kind_at-eq2}

pub loop-i-init : goal.loop-i-init
loop-i-init c = let s = c in λ m. ends-start m s.requires.1

pub put_end-k-requires : goal.put_end-k-requires
put_end-k-requires c =
    let at-loop = c in
    let s = c in
    let l = at-loop.loop-i in
    let e = l.invariant s.requires.0 in
    let q = sym c.kind_at.ensures ∙ c.if-kind_at-eq2.true in
    let h = c.loop-i-test.true in
    (ends-row s.requires.0 s.requires.1 e, omega (arith, s.requires.0.inside, s.requires.0.acceptable.few), ends-room s.requires.0 s.requires.1 e h q)

pub overflow_add-t : goal.overflow_add-t
overflow_add-t c =
    let at-loop = c in
    let s = c in omega (arith, ends-row s.requires.0 s.requires.1 (at-loop.loop-i.invariant s.requires.0))

pub loop-i-preserved : goal.loop-i-preserved
loop-i-preserved c m =
    let s = c in
    let e = c.loop-i.invariant m in
    let h = c.loop-i-test.true in
    let q = c.kind_at.ensures in
    elim c.if-kind_at-eq2.branch [ then-kind_at-eq2 w ↦ rw (w.list-is, w.k-is, w.t-is) (ends_next m s.requires.1 e h (sym q ∙ w.if-kind_at-eq2.true) w.put_end-k.ensures) | else-kind_at-eq2 w ↦ rw (w.list-is, w.k-is, w.t-is) (ends-pass m s.requires.1 e h (λ z. w.if-kind_at-eq2.false (q ∙ z))) ]

pub overflow_add-b : goal.overflow_add-b
overflow_add-b c = let s = c in omega (arith, s.requires.0.inside, s.requires.0.acceptable.few)

pub overflow_cast-b : goal.overflow_cast-b
overflow_cast-b c = let s = c in omega (arith, s.requires.0.inside, s.requires.0.acceptable.few)

pub put_entry-requires : goal.put_entry-requires
put_entry-requires c = let s = c in ends-last-room s.requires.0 s.requires.1 (c.loop-i.invariant s.requires.0) c.loop-i-test.false

pub overflow_add-result : goal.overflow_add-result
overflow_add-result c =
    let at-loop-test = c in
    let at-loop = at-loop-test in
    let s = c in omega (arith, ends-last-room s.requires.0 s.requires.1 (at-loop.loop-i.invariant s.requires.0) at-loop-test.loop-i-test.false, ends-long s.requires.0 s.requires.1 (at-loop.loop-i.invariant s.requires.0))

pub shape_of-list : goal.shape_of-list
shape_of-list c =
    let at-loop = c in
    let s = c in ap length c.put_entry.ensures ∙ simp length-set (ends-long s.requires.0 s.requires.1 (at-loop.loop-i.invariant s.requires.0))

pub returns : goal.returns
returns c =
    let at-loop-test = c in
    let at-loop = at-loop-test in
    let s = c in
    ends_last s.requires.0 s.requires.1 (at-loop.loop-i.invariant s.requires.0) at-loop-test.loop-i-test.false _ c.event_at.ensures _ c.put_entry.ensures
