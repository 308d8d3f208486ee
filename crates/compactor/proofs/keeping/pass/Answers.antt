use Prim.Native.Nat.{suc, ◌≤◌}
use mathlib.Core.Path.{sym}
use native.Mathlib.Omega.{arith}
use lib.ListN.{length}
use Rattle.records.specs.Bytes.{decode}
use Rattle.compactor.proofs.KeepLaws.{stamps-start, not-kept, is_kept, few-kept, written_start, written-dropped, written-kept, written-room}
use Rattle.compactor.proofs.KeepLaws.{written-long, written-end}
use Rattle.compactor.proofs.keeping.pass.Goals as goal
use Rattle.compactor.proofs.keeping.pass.Goals.{then-keeps, else-keeps}

pub loop-i-init : goal.loop-i-init
loop-i-init c =
    let start = c in
    let a = start.args in
    (rw (c.zeros-written.ensures, c.zeros-read.ensures) (stamps-start start.requires.0), written_start _ a.writing _, omega arith)

pub slice_bounds-keeps-end : goal.slice_bounds-keeps-end
slice_bounds-keeps-end c = sym c.loop-i.invariant.0.reads.size

pub slice_bounds-keeps-end-in-loop-i : goal.slice_bounds-keeps-end-in-loop-i
slice_bounds-keeps-end-in-loop-i c = sym c.loop-i.invariant.0.writes.size

pub keeps-requires : goal.keeps-requires
keeps-requires c =
    let l = c in
    let n = l.count-n.ensures in
    (l.loop-i.invariant.0, omega arith)

pub put-requires : goal.put-requires
put-requires c =
    let l = c in
    let f = few-kept l.requires.0 l.loop-i.i l.loop-i.invariant.2 in
    omega (arith, l.loop-i.invariant.1.count, f.0)

pub overflow_add-k : goal.overflow_add-k
overflow_add-k c =
    let l = c in
    let f = few-kept l.requires.0 l.loop-i.i l.loop-i.invariant.2 in
    omega (arith, l.loop-i.invariant.1.count, f.0)

pub loop-i-preserved : goal.loop-i-preserved
loop-i-preserved c =
    let n = c.count-n.ensures in
    let k = c.keeps in
    let l = c.loop-i.invariant.1 in
    let more : suc c.loop-i.i ≤ length (decode c.args.recs.now) = omega arith in
    elim c.if-keeps.branch [
      | then-keeps w ↦
          let y = is_kept k.result k.ensures.0 w.if-keeps.true in
          let room = written-room _ c.args.writing l _ (few-kept c.requires.0 (suc c.loop-i.i) more).1 y c.requires.1 in
          rw (w.k-is, w.out-is) (k.ensures.1, written-kept _ c.args.writing l y room w.put.ensures, omega arith)
      | else-keeps w ↦ rw (w.k-is, w.out-is) (k.ensures.1, written-dropped _ l (not-kept k.result k.ensures.0 w.if-keeps.false), omega arith)
    ]

pub shape_of-out : goal.shape_of-out
shape_of-out c =
    let l = c in
    let start = l in
    written-long _ start.args.writing l.loop-i.invariant.1 _ (few-kept start.requires.0 l.loop-i.i l.loop-i.invariant.2).1 start.requires.1

pub returns : goal.returns
returns c =
    let l = c in
    let start = l in
    let n = l.count-n.ensures in
    let i = l.loop-i.invariant.2 in
    written-end _ start.requires.0 l.loop-i.invariant.1 (omega arith)
