use Prim.Native.Nat.{ℕ, ◌-◌}
use mathlib.Core.Path.{refl, sym, ap, ap₂, ◌∙◌}
use mathlib.Core.List.{List}
use native.Mathlib.Omega.{arith}
use Rattle.records.specs.Bytes.{decode}
use Rattle.links.specs.Rule.{rank_in, Walked, walk}
use Rattle.links.proofs.RuleLaws.{walk-down, walk-stuck, walk_end, walk-within}
use Rattle.links.proofs.link_walk.Goals as goal

pub loop-j-init : goal.loop-j-init
loop-j-init c =
    let k = c.args in (
      refl,
      refl,
      walk-within (decode k.recs.now) (rank_in k.ranks.now) k.e.0 k.u k.table.now k.sets.now c.min-j.result k.from
          (omega (arith, c.min-j.ensures)) (λ d. omega (arith, d, c.min-j.ensures, c.count.ensures)),
    )

pub shape_of-table-then-link_turn : goal.shape_of-table-then-link_turn
shape_of-table-then-link_turn c =
    c.link_turn.auto.table
    ∙ c.loop-j.invariant.0

pub shape_of-sets-then-link_turn : goal.shape_of-sets-then-link_turn
shape_of-sets-then-link_turn c =
    c.link_turn.auto.sets
    ∙ c.loop-j.invariant.1

pub returns-then-link_turn : goal.returns-then-link_turn
returns-then-link_turn c = let t = c.link_turn.ensures in
    let w = walk-stuck _ _ _ _ _ _ _ (omega arith) (sym t.stuck_is ∙ c.if-link_turn.true) ∙ c.loop-j.invariant.2 in
    (ap (λ (w : Walked). w.stuck) w, t.words_are ∙ ap (λ (w : Walked). w.words) w)

pub loop-j-preserved : goal.loop-j-preserved
loop-j-preserved c = let t = c.link_turn.ensures in
    let k = c.args in
    let l = c.loop-j in
    let down = walk-down (decode k.recs.now) (rank_in k.ranks.now) k.e.0 k.u l.table l.sets l.j (omega arith) (sym t.stuck_is ∙ c.if-link_turn.false) in
    let same = ap₂ (λ (a b : List ℕ). walk (decode k.recs.now) (rank_in k.ranks.now) k.e.0 k.u (l.j - 1) a b) t.words_are t.sets_are in
    (c.link_turn.auto.table ∙ l.invariant.0, c.link_turn.auto.sets ∙ l.invariant.1, same ∙ down ∙ l.invariant.2)

pub shape_of-table : goal.shape_of-table
shape_of-table c = c.loop-j.invariant.0

pub shape_of-sets : goal.shape_of-sets
shape_of-sets c = c.loop-j.invariant.1

pub returns : goal.returns
returns c = let w = walk_end _ _ _ _ _ _ _ (omega arith) ∙ c.loop-j.invariant.2 in
    (ap (λ (w : Walked). w.stuck) w, ap (λ (w : Walked). w.words) w)
