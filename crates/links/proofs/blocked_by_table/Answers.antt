use Prim.Native.Nat.{ℕ, ◌+◌, ◌≤◌}
use mathlib.Core.Path.{◌≡◌, ap, ◌∙◌}
use mathlib.Core.Bool.{Bool}
use mathlib.Core.List.{List}
use lib.ListN.{length}
use Rattle.slices.specs.Slices.{zeros}
use Rattle.records.specs.declared.Record.{Record}
use Rattle.records.specs.Bytes.{decode}
use Rattle.bits.specs.Table.{put_bit}
use Rattle.links.specs.Rule.{rank_in, walk}
use Rattle.links.specs.Fill.{fill_from}
use Rattle.links.specs.Begin.{table_blocked}
use Rattle.links.proofs.BeginLaws.{no_room, by-table}
use Rattle.links.proofs.blocked_by_table.Goals as goal

-- what the table and the walk tell
module _ (tr : List Record) (ranks : ℕ → ℕ) (from e u : ℕ) (low : u ≤ 1023) where
  told : {w₀ w₁ w₂ : List ℕ} {stuck : Bool} → w₀ ≡ zeros 8704 → w₁ ≡ (fill_from tr ranks 0 (length tr) w₀ (zeros 1025)).words → w₂ ≡ put_bit u u w₁
      → stuck ≡ (walk tr ranks e (u + 1) from w₂ (zeros 64)).stuck → stuck ≡ table_blocked tr ranks from e u
  told p q r s =
      let filled = q ∙ ap (λ (ws : List ℕ). (fill_from tr ranks 0 (length tr) ws (zeros 1025)).words) p in
      s ∙ ap (λ (ws : List ℕ). (walk tr ranks e (u + 1) from ws (zeros 64)).stuck) (r ∙ ap (put_bit u u) filled) ∙ by-table tr ranks from e u low

pub returns-then-u-gt1023 : goal.returns-then-u-gt1023
returns-then-u-gt1023 c = no_room _ _ _ _ _ c.if-u-gt1023.true

pub returns : goal.returns
returns c =
    let k = c.args in
    told (decode k.recs.now) (rank_in k.ranks.now) k.from k.e.0 k.u c.if-u-gt1023.false
    c.no_bits-table.ensures c.fill.ensures.1 c.put.ensures c.link_rule.ensures.0
