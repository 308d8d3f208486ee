use Prim.Native.Nat.{ℕ}
use mathlib.Core.Path.{◌≡◌, ap₂, ◌∙◌}
use mathlib.Core.List.{List}
use lib.ListN.{length}
use Rattle.slices.specs.Slices.{zeros}
use Rattle.records.specs.Bytes.{decode}
use Rattle.ranks.specs.Ranks.{ranks_of}
use Rattle.links.specs.Rule.{rank_in}
use Rattle.links.specs.Fill.{fill_from, fill_all}
use Rattle.links.proofs.first_blocked.Goals as goal

-- what the table over the records of b tells
by-table : (b : List ℕ) {all ws : List ℕ} {stop : ℕ} → stop ≡ (fill_from (decode b) (rank_in all) 0 (length (decode b)) ws (zeros 1025)).stop
    → all ≡ ranks_of (decode b) → ws ≡ zeros 8704 → stop ≡ (fill_all (decode b)).stop
unfolding fill_all
by-table b e q w = e ∙ ap₂ (λ (ranks words : List ℕ). (fill_from (decode b) (rank_in ranks) 0 (length (decode b)) words (zeros 1025)).stop) q w

pub returns : goal.returns
returns c = by-table c.args.recs.now c.fill.ensures.0 c.ranks-all.ensures c.no_bits-table.ensures
