use native.Mathlib.Omega.{arith}
use Prim.Native.Nat.{◌+◌}
use mathlib.Core.Path.{sym, ap₂, ◌∙◌}
use lib.Dec.{ltb}
use lib.ListN.{get_or}
use Rattle.records.specs.Bytes.{decode}
use Rattle.records.specs.Records.{at}
use Rattle.races.proofs.CandidateLaws.{cell-low}
use Rattle.pair.proofs.KeptLaws.{kind-high, clash-none, clash-is}
use Rattle.pair.proofs.kept.has_conflict.Goals as goal

pub returns-then-kind-lt5 : goal.returns-then-kind-lt5
returns-then-kind-lt5 c =
    let s = c in
    sym (clash-none (decode s.args.recs.now) s.args.cells.now s.args.i (omega (arith, c.base_kind_at-kind.ensures)))

pub bounds-cells-cell_at : goal.bounds-cells-cell_at
bounds-cells-cell_at c =
    let s = c in
    omega (arith, c.cell_at.ensures, cell-low s.requires.0 s.args.i s.requires.2, s.requires.1.size)

pub overflow_add-result : goal.overflow_add-result
overflow_add-result c =
    let at-kind-at = c in
    let s = c in
    omega (arith, at-kind-at.base_kind_at-kind.ensures, kind-high (at (decode s.args.recs.now) s.args.i), s.requires.1.low c.cell_at.result.0)

pub returns : goal.returns
returns c =
    let at-kind-at = c in
    let s = c in
    let k = at-kind-at.base_kind_at-kind in
    let x = c.cell_at in
    ap₂ (λ m n. ltb 6 (m + get_or s.args.cells.now n 0)) k.ensures x.ensures
    ∙ sym (clash-is (decode s.args.recs.now) s.args.cells.now s.args.i (omega (arith, k.ensures, c.if-kind-lt5.false)))
