use Rattle.clocks.specs.WayRound.{says_before}
use Rattle.races.proofs.FilledLaws.{rows_told, before-told}
use mathlib.Core.Path.{refl, sym, ap, ◌∙◌}
use Rattle.pair.proofs.RankedClocks.{ranked_clocks}
use Rattle.pair.proofs.filled.Ranked.is_before.Goals as goal

pub returns : goal.returns
returns c =
    let b = c in
    let f = ranked_clocks b.args.self in
    c.is_before.ensures
    ∙ ap says_before (c.relation.ensures ∙ sym (rows_told f b.args.a b.args.b _ _ b.requires.0 b.requires.1 refl refl))
    ∙ before-told f b.args.a b.args.b _ _ b.requires.0 b.requires.1 refl refl
