use Prim.Native.Nat.{ℕ, ◌+◌, ◌-◌}
use mathlib.Core.Path.{◌≡◌, refl, sym, ap, ap₂, ◌∙◌}
use mathlib.Core.List.{List}
use native.Mathlib.Omega.{arith}
use Rattle.records.specs.Bytes.{decode}
use Rattle.links.specs.Rule.{rank_in}
use Rattle.links.specs.Fill.{FilledTable, fill_from}
use Rattle.links.proofs.FillLaws.{fill-next, fill-stuck, fill_end}
use Rattle.links.proofs.fill_rows.Goals as goal

pub loop-i-init : goal.loop-i-init
loop-i-init c = let k = c.args in
    let z : k.n - 0 ≡ k.n = omega arith in
    (omega arith, refl, refl, rw z)

pub shape_of-table-then-fill_record : goal.shape_of-table-then-fill_record
shape_of-table-then-fill_record c =
    c.fill_record.auto.table
    ∙ c.loop-i.invariant.1

pub shape_of-last-then-fill_record : goal.shape_of-last-then-fill_record
shape_of-last-then-fill_record c =
    c.fill_record.auto.last
    ∙ c.loop-i.invariant.2

pub returns-then-fill_record : goal.returns-then-fill_record
returns-then-fill_record c = let k = c.args in
    let l = c.loop-i in
    let t = c.fill_record.ensures in
    let w = fill-stuck (decode k.recs.now) (rank_in k.ranks.now) l.i k.n l.table l.last (omega arith) (sym t.stuck_is ∙ c.if-fill_record.true) ∙ l.invariant.3 in
    (ap (λ (x : FilledTable). x.stop) w, t.words_are ∙ ap (λ (x : FilledTable). x.words) w)

pub loop-i-preserved : goal.loop-i-preserved
loop-i-preserved c = let k = c.args in
    let l = c.loop-i in
    let t = c.fill_record.ensures in
    let tr = decode k.recs.now in
    let ranks = rank_in k.ranks.now in
    let next = fill-next tr ranks l.i k.n l.table l.last (omega arith) (sym t.stuck_is ∙ c.if-fill_record.false) in
    let same = ap₂ (λ (a b : List ℕ). fill_from tr ranks (l.i + 1) (k.n - (l.i + 1)) a b) t.words_are t.last-is in
    (omega arith, c.fill_record.auto.table ∙ l.invariant.1, c.fill_record.auto.last ∙ l.invariant.2, same ∙ next ∙ l.invariant.3)

pub shape_of-table : goal.shape_of-table
shape_of-table c = c.loop-i.invariant.1

pub shape_of-last : goal.shape_of-last
shape_of-last c = c.loop-i.invariant.2

pub returns : goal.returns
returns c = let k = c.args in
    let l = c.loop-i in
    let z : k.n ≡ l.i = omega arith in
    let w = fill_end (decode k.recs.now) (rank_in k.ranks.now) l.i k.n l.table l.last (omega arith) ∙ l.invariant.3 in
    (z ∙ ap (λ (x : FilledTable). x.stop) w, ap (λ (x : FilledTable). x.words) w)
