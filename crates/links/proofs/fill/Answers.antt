use Prim.Native.Nat.{ℕ}
use mathlib.Core.Path.{ap, ap₂, ◌∙◌}
use mathlib.Core.List.{List}
use native.Mathlib.Omega.{arith}
use Rattle.records.specs.Bytes.{decode}
use Rattle.records.proofs.Decoded.{decoded-length}
use Rattle.links.specs.Rule.{rank_in}
use Rattle.links.specs.Fill.{FilledTable, fill_from}
use Rattle.links.proofs.fill.Goals as goal

pub fill_rows-requires : goal.fill_rows-requires
fill_rows-requires c = let start = c in
    omega (arith, decoded-length start.args.recs.now, c.count-n.ensures)

pub returns : goal.returns
returns c = let k = c.args in
    let r = c.fill_rows.ensures in
    let w = ap₂ (λ (n : ℕ) (last : List ℕ). fill_from (decode k.recs.now) (rank_in k.ranks.now) 0 n k.table.now last) c.count-n.ensures c.zeros-last.ensures in
    (r.0 ∙ ap (λ (x : FilledTable). x.stop) w, r.1 ∙ ap (λ (x : FilledTable). x.words) w)
