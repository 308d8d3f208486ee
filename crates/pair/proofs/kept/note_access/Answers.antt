use native.Mathlib.Omega.{arith}
use Prim.Native.Nat.{◌-◌, max}
use mathlib.Core.Path.{◌≡◌, sym, ap}
use lib.ListN.{get_or, set}
use Rattle.pair.proofs.MergeLaws.{set_own}
use Rattle.pair.proofs.kept.note_access.Goals as goal

pub returns-then-kind-eq6 : goal.returns-then-kind-eq6
returns-then-kind-eq6 c =
    let s = c in
    let e : 2 ≡ max (get_or s.args.cells.now s.args.x 0) (s.args.kind - 4) = omega arith in
    ap (set s.args.cells.now s.args.x) e

pub returns-then-cells-x-eq0 : goal.returns-then-cells-x-eq0
returns-then-cells-x-eq0 c =
    let s = c in
    let e : 1 ≡ max (get_or s.args.cells.now s.args.x 0) (s.args.kind - 4) = omega arith in
    ap (set s.args.cells.now s.args.x) e

pub returns-else-cells-x-eq0 : goal.returns-else-cells-x-eq0
returns-else-cells-x-eq0 c =
    let s = c in
    let n = c.if-cells-x-eq0.false in
    let e : get_or s.args.cells.now s.args.x 0 ≡ max (get_or s.args.cells.now s.args.x 0) (s.args.kind - 4) = omega (arith, n) in
    sym (set_own s.args.cells.now s.args.x _ (sym e))
